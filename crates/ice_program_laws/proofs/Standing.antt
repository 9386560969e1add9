-- Where the variables of a dictionary stand: each at one place.
use Rattle.std.proofs.Common.{◌≡◌, ◌≢◌, ◌⊎◌, inl, inr, ℕ, zero, suc, ◌+◌, ◌<◌, ◌≤◌, refl, sym, ap, subst, ◌∙◌, arith, Bool, true, false, cond, not, nat_lt, Some, None, List, [], ◌∷◌, length, slice_index_or}
use Rattle.std.specs.List.{find, position, position_or_len}
use Rattle.std.proofs.lemmas.Bool.{cases_eq}
use Rattle.std.proofs.lemmas.Bool.Decides.{nat_tests}
use Rattle.std.proofs.lemmas.List.{get_or-set_other, get_or-set_same}
use Rattle.ice_defs.specs.Dictionary.{Left, Dictionary, Spot}
use Rattle.ice_program_laws.specs.Solutions.{left_at, right_at, IsPivot}
use Rattle.ice_program_laws.proofs.Pivot.{Made, right_length}

-- each variable is below the bound, and stands at one place
pub record Stands (bound : ℕ) (d : Dictionary) : Type 0 where
  pub right_once : (i j : ℕ) → i < length d.right → j < length d.right → right_at d i ≡ right_at d j → i ≡ j
  pub left_once : (i j : ℕ) → i < length d.left → j < length d.left → (left_at d i).variable ≡ (left_at d j).variable → i ≡ j
  pub apart : (i j : ℕ) → i < length d.left → j < length d.right → (left_at d i).variable ≢ right_at d j
  pub right_below : (j : ℕ) → j < length d.right → right_at d j < bound
  pub left_below : (i : ℕ) → i < length d.left → (left_at d i).variable < bound

-- ---- a pivot keeps it

module _ (bound : ℕ) (d after : Dictionary) (l : ℕ) (k : Spot) (hp : IsPivot d l k) (m : Made d after l k) (s : Stands bound d) where
  right_here : (j : ℕ) → j ≡ k.place → right_at after j ≡ (left_at d l).variable
  right_here j e = ap (λ i. right_at after i) e ∙ ap (λ vs. slice_index_or vs k.place 0) m.right ∙ get_or-set_same d.right k.place (left_at d l).variable 0 hp.place

  right_other : (j : ℕ) → j ≢ k.place → right_at after j ≡ right_at d j
  right_other j ne = ap (λ vs. slice_index_or vs j 0) m.right ∙ get_or-set_other d.right k.place j (left_at d l).variable 0 ne

  left_here : (i : ℕ) → i ≡ l → (left_at after i).variable ≡ right_at d k.place
  left_here i e = ap (λ i. (left_at after i).variable) e ∙ ap (λ (row : Left). row.variable) m.leaving ∙ m.new_is.variable ∙ hp.variable

  left_other : (i : ℕ) → i < length d.left → i ≢ l → (left_at after i).variable ≡ (left_at d i).variable
  left_other i h ne = (m.others i h ne).variable

  right_once : (i j : ℕ) → i < length d.right → j < length d.right → right_at after i ≡ right_at after j → i ≡ j
  right_once i j hi hj e = by (cases_eq i k.place) (cases_eq j k.place)
    where
      by : (i ≡ k.place) ⊎ (i ≢ k.place) → (j ≡ k.place) ⊎ (j ≢ k.place) → i ≡ j
      by (inl p) (inl q) = p ∙ sym q
      by (inl p) (inr q) = absurd (s.apart l j hp.row hj (sym (right_here i p) ∙ e ∙ right_other j q))
      by (inr p) (inl q) = absurd (s.apart l i hp.row hi (sym (right_here j q) ∙ sym e ∙ right_other i p))
      by (inr p) (inr q) = s.right_once i j hi hj (sym (right_other i p) ∙ e ∙ right_other j q)

  left_once : (i j : ℕ) → i < length d.left → j < length d.left → (left_at after i).variable ≡ (left_at after j).variable → i ≡ j
  left_once i j hi hj e = by (cases_eq i l) (cases_eq j l)
    where
      by : (i ≡ l) ⊎ (i ≢ l) → (j ≡ l) ⊎ (j ≢ l) → i ≡ j
      by (inl p) (inl q) = p ∙ sym q
      by (inl p) (inr q) = absurd (s.apart j k.place hj hp.place (sym (left_other j hj q) ∙ sym e ∙ left_here i p))
      by (inr p) (inl q) = absurd (s.apart i k.place hi hp.place (sym (left_other i hi p) ∙ e ∙ left_here j q))
      by (inr p) (inr q) = s.left_once i j hi hj (sym (left_other i hi p) ∙ e ∙ left_other j hj q)

  apart : (i j : ℕ) → i < length d.left → j < length d.right → (left_at after i).variable ≢ right_at after j
  apart i j hi hj e = by (cases_eq i l) (cases_eq j k.place)
    where
      by : (i ≡ l) ⊎ (i ≢ l) → (j ≡ k.place) ⊎ (j ≢ k.place) → ⊥
      by (inl p) (inl q) = s.apart l k.place hp.row hp.place (sym (right_here j q) ∙ sym e ∙ left_here i p)
      by (inl p) (inr q) = q (sym (s.right_once k.place j hp.place hj (sym (left_here i p) ∙ e ∙ right_other j q)))
      by (inr p) (inl q) = p (s.left_once i l hi hp.row (sym (left_other i hi p) ∙ e ∙ right_here j q))
      by (inr p) (inr q) = s.apart i j hi hj (sym (left_other i hi p) ∙ e ∙ right_other j q)

  right_below : (j : ℕ) → j < length d.right → right_at after j < bound
  right_below j h = by (cases_eq j k.place)
    where
      by : (j ≡ k.place) ⊎ (j ≢ k.place) → right_at after j < bound
      by (inl p) = subst (λ v. v < bound) (sym (right_here j p)) (s.left_below l hp.row)
      by (inr p) = subst (λ v. v < bound) (sym (right_other j p)) (s.right_below j h)

  left_below : (i : ℕ) → i < length d.left → (left_at after i).variable < bound
  left_below i h = by (cases_eq i l)
    where
      by : (i ≡ l) ⊎ (i ≢ l) → (left_at after i).variable < bound
      by (inl p) = subst (λ v. v < bound) (sym (left_here i p)) (s.right_below k.place hp.place)
      by (inr p) = subst (λ v. v < bound) (sym (left_other i h p)) (s.left_below i h)

  pub stands_after : Stands bound after
  stands_after =
      let r : (j : ℕ) → j < length after.right → j < length d.right = λ j h. subst (λ x. j < x) (right_length d after l k m) h in
      let f : (i : ℕ) → i < length after.left → i < length d.left = λ i h. subst (λ x. i < x) m.same_length h in
      record {
        right_once = λ i j hi hj. right_once i j (r i hi) (r j hj);
        left_once = λ i j hi hj. left_once i j (f i hi) (f j hj);
        apart = λ i j hi hj. apart i j (f i hi) (r j hj);
        right_below = λ j h. right_below j (r j h);
        left_below = λ i h. left_below i (f i h);
      }

-- ---- look-ups

pub find_one : {X : Type 0} (p : X → Bool) (xs : List X) (i : ℕ) (d : X) → i < length xs → p (slice_index_or xs i d) ≡ true
    → ((j : ℕ) → j < length xs → j ≢ i → p (slice_index_or xs j d) ≡ false) → find p xs ≡ Some (slice_index_or xs i d)
find_one p [] i d l h others = absurd (omega arith)
find_one p (x ∷ xs) zero d l h others = ap (λ b. cond b (Some x) (find p xs)) h
find_one p (x ∷ xs) (suc i) d l h others =
    ap (λ b. cond b (Some x) (find p xs)) (others zero (omega arith) (omega arith)) ∙ find_one p xs i d (omega arith) h (λ j m ne. others (suc j) (omega arith) (omega arith))

pub find_none : {X : Type 0} (p : X → Bool) (xs : List X) (d : X) → ((j : ℕ) → j < length xs → p (slice_index_or xs j d) ≡ false) → find p xs ≡ None
find_none p [] d others = refl
find_none p (x ∷ xs) d others = ap (λ b. cond b (Some x) (find p xs)) (others zero (omega arith)) ∙ find_none p xs d (λ j m. others (suc j) (omega arith))

passes_by : {X : Type 0} (p : X → Bool) (xs : List X) (i : ℕ) (d : X) → i < length xs → p (slice_index_or xs i d) ≡ true → position_or_len p xs ≤ i
passes_by p [] i d l h = absurd (omega arith)
passes_by p (x ∷ xs) zero d l h = let e : position_or_len p (x ∷ xs) ≡ 0 = ap (λ b. let n : ℕ = cond (not b) (1 + position_or_len p xs) 0 in n) h in omega (arith, e)
passes_by p (x ∷ xs) (suc i) d l h = by (p x) (passes_by p xs i d (omega arith) h)
  where
    by : (b : Bool) → position_or_len p xs ≤ i → (cond (not b) (1 + position_or_len p xs) 0) ≤ suc i
    by true k = omega arith
    by false k = omega arith

pub position_none : {X : Type 0} (p : X → Bool) (xs : List X) (d : X) → position p xs ≡ None → (i : ℕ) → i < length xs → p (slice_index_or xs i d) ≡ false
position_none p xs d h i l = by (p (slice_index_or xs i d)) refl
  where
    inside : (b : Bool) → nat_lt (position_or_len p xs) (length xs) ≡ b → cond b (Some (position_or_len p xs)) None ≡ None → length xs ≤ position_or_len p xs
    inside true e g = absurd (cc)
    inside false e g = grind (arith, nat_tests)

    by : (b : Bool) → p (slice_index_or xs i d) ≡ b → b ≡ false
    by true e = absurd (let k : position_or_len p xs ≤ i = passes_by p xs i d l e in let g : length xs ≤ position_or_len p xs = inside (nat_lt (position_or_len p xs) (length xs)) refl h in omega arith)
    by false e = refl
