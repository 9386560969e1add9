-- The open parts, as the value rises, bounds change and parts are split.
use Rattle.std.proofs.Common.{ℕ, suc, ◌<◌, ◌≤◌, ◌≡◌, List, [], ◌∷◌, ◌++◌, length, set, ℤ, ◌≤ℤ◌, None, arith, ap, sym, ◌∙◌, subst, ◌⊎◌, inl, inr, length-append, get_or-set_same, get_or-set_other}
use Rattle.std.specs.List.{Contains}
use Rattle.std.proofs.lemmas.Int.{ints}
use Rattle.std.proofs.lemmas.Bool.{cases_lt, cases_eq}
use Rattle.std.proofs.lemmas.Option.{none-some}
use Rattle.std.proofs.lemmas.List.{length-set, get_or_append_left, get_or_push}
use Rattle.ice_search_log.specs.Parts.{Part, no_part, part_at, split_at}
use Rattle.ice_search_log.specs.Searching.{AreOpen}
use Rattle.ice_search_log.specs.Laws.{OpenRises, OpenBounds, OpenCloses, OpenSplits}

pub open_rises : OpenRises
open_rises parts value higher open_parts are le k l whole = by (are k l whole)
  where
    by : ((part_at parts k).key ≤ℤ value) ⊎ Contains open_parts k → ((part_at parts k).key ≤ℤ higher) ⊎ Contains open_parts k
    by (inl low) = inl (omega (arith, ints, low, le))
    by (inr listed) = inr listed

pub open_bounds : OpenBounds
open_bounds parts value open_parts k p are listed j l whole = by (cases_eq j k)
  where
    by : (j ≡ k) ⊎ (j ≡ k → ⊥) → ((part_at (set parts k p) j).key ≤ℤ value) ⊎ Contains open_parts j
    by (inl e) = inr (subst (Contains open_parts) (sym e) listed)
    by (inr ne) =
        let same = get_or-set_other parts k j p no_part ne in
        subst (λ q. (q.key ≤ℤ value) ⊎ Contains open_parts j) (sym same) (are j (omega (arith, l, length-set parts k p)) (sym (ap (λ q. q.split) same) ∙ whole))

pub open_closes : OpenCloses
open_closes parts value open_parts left k are low kept j l whole = by (cases_eq j k) (are j l whole)
  where
    by : (j ≡ k) ⊎ (j ≡ k → ⊥) → ((part_at parts j).key ≤ℤ value) ⊎ Contains open_parts j → ((part_at parts j).key ≤ℤ value) ⊎ Contains left j
    by (inl e) here = inl (subst (λ i. (part_at parts i).key ≤ℤ value) (sym e) low)
    by (inr ne) (inl closed) = inl closed
    by (inr ne) (inr listed) = inr (kept j listed ne)

module _ (parts : List Part) (value : ℤ) (open_parts left : List ℕ) (k b n : ℕ) (must never : Part) (are : AreOpen parts value open_parts) (there : k < length parts)
    (kept : (j : ℕ) → Contains open_parts j → (j ≡ k → ⊥) → Contains left j) where
  abbrev before : List Part
  before = set parts k (split_at (part_at parts k) b n (length parts))

  abbrev IsOpenAt : Part → ℕ → Type 0
  IsOpenAt q j = q.split ≡ None → (q.key ≤ℤ value) ⊎ Contains left j

  size : length before ≡ length parts
  size = length-set parts k (split_at (part_at parts k) b n (length parts))

  open_before : (j : ℕ) → j < length parts → IsOpenAt (part_at before j) j
  open_before j l = by (cases_eq j k)
    where
      closed_or : (j ≡ k → ⊥) → ((part_at parts j).key ≤ℤ value) ⊎ Contains open_parts j → ((part_at parts j).key ≤ℤ value) ⊎ Contains left j
      closed_or ne (inl low) = inl low
      closed_or ne (inr listed) = inr (kept j listed ne)

      by : (j ≡ k) ⊎ (j ≡ k → ⊥) → IsOpenAt (part_at before j) j
      by (inl e) whole =
          let here = ap (part_at before) e ∙ get_or-set_same parts k (split_at (part_at parts k) b n (length parts)) no_part there in
          absurd (none-some (record { bidder = b; node = n; must = length parts }) (sym whole ∙ ap (λ q. q.split) here))
      by (inr ne) whole =
          let same = get_or-set_other parts k j (split_at (part_at parts k) b n (length parts)) no_part ne in
          subst (λ q. (q.key ≤ℤ value) ⊎ Contains left j) (sym same) (closed_or ne (are j l (sym (ap (λ q. q.split) same) ∙ whole)))

  -- one part more
  open_more : (xs : List Part) (q : Part) → ((j : ℕ) → j < length xs → IsOpenAt (part_at xs j) j) → IsOpenAt q (length xs) → (j : ℕ) → j < length (xs ++ q ∷ []) → IsOpenAt (part_at (xs ++ q ∷ []) j) j
  open_more xs q each last j l = by (cases_lt j (length xs))
    where
      by : (j < length xs) ⊎ (length xs ≤ j) → IsOpenAt (part_at (xs ++ q ∷ []) j) j
      by (inl h) = subst (λ y. IsOpenAt y j) (sym (get_or_append_left xs (q ∷ []) no_part j h)) (each j h)
      by (inr h) =
          let e : length xs ≡ j = omega (arith, h, l, length-append xs (q ∷ [])) in
          subst (λ y. IsOpenAt y j) (sym (get_or_push xs q no_part j e)) (subst (IsOpenAt q) e last)

pub open_splits : OpenSplits
open_splits parts value open_parts left k b n must never are there kept must_open never_open j l whole =
    let xs = before parts value open_parts left k b n must never are there kept in
    let first = open_more parts value open_parts left k b n must never are there kept xs must
    (λ i h. open_before parts value open_parts left k b n must never are there kept i (omega (arith, h, size parts value open_parts left k b n must never are there kept)))
    (λ _. subst (λ i. (must.key ≤ℤ value) ⊎ Contains left i) (sym (size parts value open_parts left k b n must never are there kept)) must_open) in
    let suc_size : suc (length parts) ≡ length (xs ++ must ∷ []) = omega (arith, size parts value open_parts left k b n must never are there kept, length-append xs (must ∷ [])) in
    open_more parts value open_parts left k b n must never are there kept (xs ++ must ∷ []) never first (λ _. subst (λ i. (never.key ≤ℤ value) ⊎ Contains left i) suc_size never_open) j l whole
