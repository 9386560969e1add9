-- The search begins, takes other bounds, and splits a part.
use Rattle.std.proofs.Common.{ℕ, zero, suc, ◌<◌, ◌≤◌, ◌≡◌, Bool, List, [], ◌∷◌, ◌++◌, length, set, ℤ, ◌+ℤ◌, Some, None, refl, arith, ap, sym, ◌∙◌, subst, ◌⊎◌, inl, inr, length-append, get_or-set_same, get_or-set_other}
use Rattle.std.proofs.lemmas.Int.{ints}
use Rattle.std.proofs.lemmas.Bool.{cases_lt, cases_eq}
use Rattle.std.proofs.lemmas.Option.{none-some, same_Some}
use Rattle.std.proofs.lemmas.List.{length-set, get_or_append_left, get_or_at, get_or_push}
use Rattle.ice_defs.specs.declared.Mark.TheVariants.{Must, Never}
use Rattle.ice_defs.specs.Sum.{sum_below, sum_over}
use Rattle.ice_defs.specs.Tree.{Tree}
use Rattle.ice_defs.specs.Set.{Weights}
use Rattle.ice_defs.specs.Trade.{Assignment}
use Rattle.ice_defs.specs.Derived.{Means}
use Rattle.ice_defs.specs.Steps.{Side, with_mark}
use Rattle.ice_defs.specs.Log.{IsFreeNode}
use Rattle.ice_defs.specs.Sweep.{IsEarned}
use Rattle.ice_search_log.specs.Parts.{Put, Split, Part, no_part, part_at, split_at, side_below, sides_of, side_at}
use Rattle.ice_search_log.specs.Searching.{over_children, IsPart, IsSplit, IsChild, IsSearch}
use Rattle.ice_search_log.specs.Laws.{SearchBegins, SearchBounds, SearchSplits}
use Rattle.ice_search_log.proofs.Sides.{side_at-set, side_at-append, side_at-first, side_at-second}

append_push : (xs : List Part) (x y : Part) → (xs ++ x ∷ []) ++ y ∷ [] ≡ xs ++ x ∷ y ∷ []
append_push [] x y = refl
append_push (z ∷ xs) x y = ap (λ ys. z ∷ ys) (append_push xs x y)

-- ---- sums over the parts

sum_over-append : (g : Part → ℤ) (xs ys : List Part) → sum_over g (xs ++ ys) ≡ sum_over g xs +ℤ sum_over g ys
sum_over-append g [] ys = omega (arith, ints)
sum_over-append g (x ∷ xs) ys = omega (arith, ints, sum_over-append g xs ys)

sum_over-set : (g : Part → ℤ) (parts : List Part) (k : ℕ) (p : Part) → k < length parts → sum_over g (set parts k p) +ℤ g (part_at parts k) ≡ sum_over g parts +ℤ g p
sum_over-set g [] k p l = absurd (omega (arith, l))
sum_over-set g (x ∷ parts) zero p l = omega (arith, ints)
sum_over-set g (x ∷ parts) (suc k) p l = omega (arith, ints, sum_over-set g parts k p (omega (arith, l)))

-- ---- the first part

pub search_begins : SearchBegins
search_begins means ts exact ws start first p lawful is whole = record {
  lawful = lawful;
  root = omega arith;
  each = λ k l. each k (let zero_is : k ≡ 0 = omega (arith, l) in zero_is);
  splits = λ k s l has. splits k s (let zero_is : k ≡ 0 = omega (arith, l) in zero_is) has;
  child = λ j later l. absurd (omega (arith, later, l));
  paired = λ f. omega (arith, ints, ap (over_children f) whole);
}
  where
    each : (k : ℕ) → k ≡ 0 → IsPart means ts exact ws (side_at start (p ∷ []) k) (part_at (p ∷ []) k)
    each zero e = is
    each (suc k) e = absurd (omega (arith, e))

    splits : (k : ℕ) (s : Split) → k ≡ 0 → (part_at (p ∷ []) k).split ≡ Some s → IsSplit ts exact ws start first (p ∷ []) k s
    splits zero s e has = absurd (none-some s (sym whole ∙ has))
    splits (suc k) s e has = absurd (omega (arith, e))

module _ (means : Means) (ts : List Tree) (exact : List Bool) (ws : List Weights) (start : Side) (first : Assignment) (parts : List Part) (k : ℕ) (is : IsSearch means ts exact ws start first parts) (there : k < length parts) where
  -- ---- other bounds

  module _ (p : Part) (same_put : p.put ≡ (part_at parts k).put) (same_split : p.split ≡ (part_at parts k).split) (new : IsPart means ts exact ws (side_at start parts k) p) where
    part_same : (j : ℕ) → j ≡ k → part_at (set parts k p) j ≡ p
    part_same j e = ap (part_at (set parts k p)) e ∙ get_or-set_same parts k p no_part there

    part_other : (j : ℕ) → (j ≡ k → ⊥) → part_at (set parts k p) j ≡ part_at parts j
    part_other j ne = get_or-set_other parts k j p no_part ne

    split_same : (j : ℕ) → (part_at (set parts k p) j).split ≡ (part_at parts j).split
    split_same j = by (cases_eq j k)
      where
        by : (j ≡ k) ⊎ (j ≡ k → ⊥) → (part_at (set parts k p) j).split ≡ (part_at parts j).split
        by (inl e) = ap (λ q. q.split) (part_same j e) ∙ same_split ∙ ap (λ i. (part_at parts i).split) (sym e)
        by (inr ne) = ap (λ q. q.split) (part_other j ne)

    side_same : (j : ℕ) → side_at start parts j ≡ side_at start (set parts k p) j
    side_same j = sym (side_at-set start parts k j p same_put)

    each_bounds : (j : ℕ) → j < length (set parts k p) → IsPart means ts exact ws (side_at start (set parts k p) j) (part_at (set parts k p) j)
    each_bounds j l = subst (λ side. IsPart means ts exact ws side (part_at (set parts k p) j)) (side_same j) (by (cases_eq j k))
      where
        by : (j ≡ k) ⊎ (j ≡ k → ⊥) → IsPart means ts exact ws (side_at start parts j) (part_at (set parts k p) j)
        by (inl e) = subst (IsPart means ts exact ws (side_at start parts j)) (sym (part_same j e)) (subst (λ i. IsPart means ts exact ws (side_at start parts i) p) (sym e) new)
        by (inr ne) = subst (IsPart means ts exact ws (side_at start parts j)) (sym (part_other j ne)) (is.each j (omega (arith, l, length-set parts k p)))

    splits_bounds : (j : ℕ) (s : Split) → j < length (set parts k p) → (part_at (set parts k p) j).split ≡ Some s → IsSplit ts exact ws start first (set parts k p) j s
    splits_bounds j s l has =
        let split = is.splits j s (omega (arith, l, length-set parts k p)) (sym (split_same j) ∙ has) in
        record {
          after = split.after;
          inside = omega (arith, split.inside, length-set parts k p);
          must = sym (side_same s.must) ∙ split.must ∙ ap (λ side. with_mark side s.bidder s.node Must) (side_same j);
          never = sym (side_same (suc s.must)) ∙ split.never ∙ ap (λ side. with_mark side s.bidder s.node Never) (side_same j);
          free = subst (λ side. IsFreeNode ts side s.bidder s.node) (side_same j) split.free;
          earned = subst (λ side. IsEarned ts exact ws start first side s.bidder s.node) (side_same j) split.earned;
        }

    put_same : (j : ℕ) → (part_at parts j).put ≡ (part_at (set parts k p) j).put
    put_same j = by (cases_eq j k)
      where
        by : (j ≡ k) ⊎ (j ≡ k → ⊥) → (part_at parts j).put ≡ (part_at (set parts k p) j).put
        by (inl e) = ap (λ i. (part_at parts i).put) e ∙ sym same_put ∙ sym (ap (λ q. q.put) (part_same j e))
        by (inr ne) = sym (ap (λ q. q.put) (part_other j ne))

    child_bounds : (j : ℕ) → 0 < j → j < length (set parts k p) → IsChild ts exact ws start first (set parts k p) j (part_at (set parts k p) j).put
    child_bounds j later l = subst (IsChild ts exact ws start first (set parts k p) j) (put_same j) (by (part_at parts j).put (is.child j later (omega (arith, l, length-set parts k p))))
      where
        by : (put : Put) → IsChild ts exact ws start first parts j put → IsChild ts exact ws start first (set parts k p) j put
        by put child = record {
          split = child.split;
          earlier = child.earlier;
          has = split_same put.above ∙ child.has;
          bidder = child.bidder;
          node = child.node;
          one = child.one;
        }

    paired_bounds : (f : ℕ → ℤ) → (sum_over (λ q. over_children f q.split) (set parts k p) +ℤ f 0) ≡ sum_below f (length (set parts k p))
    paired_bounds f = omega (arith, ints, sum_over-set (λ q. over_children f q.split) parts k p there, ap (over_children f) same_split, is.paired f, ap (sum_below f) (length-set parts k p))

    bounds : IsSearch means ts exact ws start first (set parts k p)
    bounds = record { lawful = is.lawful; root = omega (arith, is.root, length-set parts k p); each = each_bounds; splits = splits_bounds; child = child_bounds; paired = paired_bounds }

  -- ---- a split

  module _ (b n : ℕ) (must never : Part) (whole : (part_at parts k).split ≡ None) (free : IsFreeNode ts (side_at start parts k) b n)
      (earned : IsEarned ts exact ws start first (side_at start parts k) b n) (must_put : must.put ≡ record { above = k; bidder = b; node = n; mark = Must }) (must_whole : must.split ≡ None)
      (must_is : IsPart means ts exact ws (with_mark (side_at start parts k) b n Must) must) (never_put : never.put ≡ record { above = k; bidder = b; node = n; mark = Never }) (never_whole : never.split ≡ None)
      (never_is : IsPart means ts exact ws (with_mark (side_at start parts k) b n Never) never) where
    abbrev here : Part
    here = split_at (part_at parts k) b n (length parts)

    abbrev before : List Part
    before = set parts k here

    abbrev all : List Part
    all = before ++ must ∷ never ∷ []

    abbrev last : Split
    last = record { bidder = b; node = n; must = length parts }

    size : length before ≡ length parts
    size = length-set parts k here

    more : length all ≡ suc (suc (length parts))
    more = omega (arith, length-append before (must ∷ never ∷ []), size)

    -- the sides
    side_before : (j : ℕ) → j < length parts → side_at start parts j ≡ side_at start all j
    side_before j l = sym (side_at-append start before (must ∷ never ∷ []) j (omega (arith, l, size)) ∙ side_at-set start parts k j here refl)

    side_must : side_at start all (length parts) ≡ with_mark (side_at start parts k) b n Must
    side_must =
        ap (side_at start all) (sym size) ∙ side_at-first start before must (never ∷ []) (omega (arith, size, there))
        ∙ ap (side_below (sides_of start before)) must_put ∙ ap (λ side. with_mark side b n Must) (side_at-set start parts k k here refl)

    side_never : side_at start all (suc (length parts)) ≡ with_mark (side_at start parts k) b n Never
    side_never =
        ap (λ j. side_at start all (suc j)) (sym size) ∙ side_at-second start before must never (omega (arith, size, there)) (subst (λ put. put.above < length before) (sym never_put) (omega (arith, size, there)))
        ∙ ap (side_below (sides_of start before)) never_put ∙ ap (λ side. with_mark side b n Never) (side_at-set start parts k k here refl)

    -- the parts
    part_here : part_at all k ≡ here
    part_here = get_or_append_left before (must ∷ never ∷ []) no_part k (omega (arith, size, there)) ∙ get_or-set_same parts k here no_part there

    part_before : (j : ℕ) → j < length parts → (j ≡ k → ⊥) → part_at all j ≡ part_at parts j
    part_before j l ne = get_or_append_left before (must ∷ never ∷ []) no_part j (omega (arith, size, l)) ∙ get_or-set_other parts k j here no_part ne

    part_must : part_at all (length parts) ≡ must
    part_must = get_or_at before must (never ∷ []) no_part (length parts) size

    part_never : part_at all (suc (length parts)) ≡ never
    part_never =
        ap (λ xs. part_at xs (suc (length parts))) (sym (append_push before must never))
        ∙ get_or_push (before ++ must ∷ []) never no_part (suc (length parts)) (omega (arith, size, length-append before (must ∷ [])))

    -- the number of a part: this one, another one before, or one of the two new ones
    by_place : (P : ℕ → Type 0) → P k → ((j : ℕ) → j < length parts → (j ≡ k → ⊥) → P j) → P (length parts) → P (suc (length parts)) → (j : ℕ) → j < length all → P j
    by_place P at_k at_others at_must at_never j l = by (cases_eq j k) (cases_lt j (length parts)) (cases_eq j (length parts))
      where
        by : (j ≡ k) ⊎ (j ≡ k → ⊥) → (j < length parts) ⊎ (length parts ≤ j) → (j ≡ length parts) ⊎ (j ≡ length parts → ⊥) → P j
        by (inl e) h same = subst P (sym e) at_k
        by (inr ne) (inl h) same = at_others j h ne
        by (inr ne) (inr h) (inl e) = subst P (sym e) at_must
        by (inr ne) (inr h) (inr other) = let e : suc (length parts) ≡ j = omega (arith, h, other, l, more) in subst P e at_never

    each_splits : (j : ℕ) → j < length all → IsPart means ts exact ws (side_at start all j) (part_at all j)
    each_splits =
        by_place (λ j. IsPart means ts exact ws (side_at start all j) (part_at all j))
        (subst (IsPart means ts exact ws (side_at start all k)) (sym part_here) (subst (λ side. IsPart means ts exact ws side here) (side_before k there) (again (is.each k there))))
        (λ j l ne. subst (IsPart means ts exact ws (side_at start all j)) (sym (part_before j l ne)) (subst (λ side. IsPart means ts exact ws side (part_at parts j)) (side_before j l) (is.each j l)))
        (subst (IsPart means ts exact ws (side_at start all (length parts))) (sym part_must) (subst (λ side. IsPart means ts exact ws side must) (sym side_must) must_is))
        (subst (IsPart means ts exact ws (side_at start all (suc (length parts)))) (sym part_never) (subst (λ side. IsPart means ts exact ws side never) (sym side_never) never_is))
      where
        again : IsPart means ts exact ws (side_at start parts k) (part_at parts k) → IsPart means ts exact ws (side_at start parts k) here
        again part = record { counts = part.counts; signs = part.signs; bound = part.bound; swept = part.swept }

    splits_here : IsSplit ts exact ws start first all k last
    splits_here = record {
      after = there;
      inside = omega (arith, more);
      must = side_must ∙ ap (λ side. with_mark side b n Must) (side_before k there);
      never = side_never ∙ ap (λ side. with_mark side b n Never) (side_before k there);
      free = subst (λ side. IsFreeNode ts side b n) (side_before k there) free;
      earned = subst (λ side. IsEarned ts exact ws start first side b n) (side_before k there) earned;
    }

    splits_before : (j : ℕ) (s : Split) → j < length parts → IsSplit ts exact ws start first parts j s → IsSplit ts exact ws start first all j s
    splits_before j s l split = record {
      after = split.after;
      inside = omega (arith, split.inside, more);
      must = sym (side_before s.must (omega (arith, split.inside))) ∙ split.must ∙ ap (λ side. with_mark side s.bidder s.node Must) (side_before j l);
      never = sym (side_before (suc s.must) split.inside) ∙ split.never ∙ ap (λ side. with_mark side s.bidder s.node Never) (side_before j l);
      free = subst (λ side. IsFreeNode ts side s.bidder s.node) (side_before j l) split.free;
      earned = subst (λ side. IsEarned ts exact ws start first side s.bidder s.node) (side_before j l) split.earned;
    }

    splits_splits : (j : ℕ) → j < length all → (s : Split) → (part_at all j).split ≡ Some s → IsSplit ts exact ws start first all j s
    splits_splits =
        by_place (λ j. (s : Split) → (part_at all j).split ≡ Some s → IsSplit ts exact ws start first all j s)
        (λ s has. subst (IsSplit ts exact ws start first all k) (same_Some last s (sym (ap (λ q. q.split) part_here) ∙ has)) splits_here)
        (λ j l ne s has. splits_before j s l (is.splits j s l (sym (ap (λ q. q.split) (part_before j l ne)) ∙ has)))
        (λ s has. absurd (none-some s (sym must_whole ∙ sym (ap (λ q. q.split) part_must) ∙ has)))
        (λ s has. absurd (none-some s (sym never_whole ∙ sym (ap (λ q. q.split) part_never) ∙ has)))

    has_here : (part_at all k).split ≡ Some last
    has_here = ap (λ q. q.split) part_here

    child_before : (j : ℕ) (put : Put) → j < length parts → IsChild ts exact ws start first parts j put → IsChild ts exact ws start first all j put
    child_before j put l child =
        let earlier : put.above < j = child.earlier in
        let other : put.above ≡ k → ⊥ = λ e. none-some child.split (sym whole ∙ ap (λ i. (part_at parts i).split) (sym e) ∙ child.has) in
        record {
          split = child.split;
          earlier = child.earlier;
          has = ap (λ q. q.split) (part_before put.above (omega (arith, earlier, l)) other) ∙ child.has;
          bidder = child.bidder;
          node = child.node;
          one = child.one;
        }

    child_must : IsChild ts exact ws start first all (length parts) (record { above = k; bidder = b; node = n; mark = Must })
    child_must = record { split = last; earlier = there; has = has_here; bidder = refl; node = refl; one = inl (refl, refl) }

    child_never : IsChild ts exact ws start first all (suc (length parts)) (record { above = k; bidder = b; node = n; mark = Never })
    child_never = record { split = last; earlier = omega (arith, there); has = has_here; bidder = refl; node = refl; one = inr (refl, refl) }

    put_here : (j : ℕ) → j < length parts → (part_at parts j).put ≡ (part_at all j).put
    put_here j l = by (cases_eq j k)
      where
        by : (j ≡ k) ⊎ (j ≡ k → ⊥) → (part_at parts j).put ≡ (part_at all j).put
        by (inl e) = ap (λ i. (part_at parts i).put) e ∙ sym (ap (λ q. q.put) (ap (part_at all) e ∙ part_here))
        by (inr ne) = sym (ap (λ q. q.put) (part_before j l ne))

    child_splits : (j : ℕ) → j < length all → 0 < j → IsChild ts exact ws start first all j (part_at all j).put
    child_splits =
        by_place (λ j. 0 < j → IsChild ts exact ws start first all j (part_at all j).put)
        (λ later. old k there later)
        (λ j l ne later. old j l later)
        (λ later. subst (IsChild ts exact ws start first all (length parts)) (sym (ap (λ q. q.put) part_must ∙ must_put)) child_must)
        (λ later. subst (IsChild ts exact ws start first all (suc (length parts))) (sym (ap (λ q. q.put) part_never ∙ never_put)) child_never)
      where
        old : (j : ℕ) → j < length parts → 0 < j → IsChild ts exact ws start first all j (part_at all j).put
        old j l later = subst (IsChild ts exact ws start first all j) (put_here j l) (child_before j (part_at parts j).put l (is.child j later l))

    paired_splits : (f : ℕ → ℤ) → (sum_over (λ q. over_children f q.split) all +ℤ f 0) ≡ sum_below f (length all)
    paired_splits f =
        omega (
          arith,
          ints,
          sum_over-append (λ q. over_children f q.split) before (must ∷ never ∷ []),
          sum_over-set (λ q. over_children f q.split) parts k here there,
          ap (over_children f) whole,
          ap (over_children f) must_whole,
          ap (over_children f) never_whole,
          is.paired f,
          ap (sum_below f) more,
        )

    splits : IsSearch means ts exact ws start first all
    splits = record { lawful = is.lawful; root = omega (arith, more); each = each_splits; splits = λ j s l has. splits_splits j l s has; child = λ j later l. child_splits j l later; paired = paired_splits }

pub search_bounds : SearchBounds
search_bounds means ts exact ws start first parts k p is there same_put same_split new = bounds means ts exact ws start first parts k is there p same_put same_split new

pub search_splits : SearchSplits
search_splits means ts exact ws start first parts k b n must never is there whole free earned must_put must_whole must_is never_put never_whole never_is =
    subst (IsSearch means ts exact ws start first) (sym (append_push (set parts k (split_at (part_at parts k) b n (length parts))) must never))
    (splits means ts exact ws start first parts k is there b n must never whole free earned must_put must_whole must_is never_put never_whole never_is)
