-- The numbers below a bound: their list, and what a filter or a search of it gives.
use Rattle.std.proofs.Common.{ℕ, zero, suc, ◌<◌, ◌≤◌, ◌≡◌, Bool, true, false, cond, [], ◌∷◌, ◌++◌, length, Option, Some, None, refl, arith, ap, sym, ◌∙◌, ◌⊎◌, inl, inr, get_or}
use Rattle.std.specs.Prelude.{find, filter_map}
use Rattle.std.specs.Option.{option_or}
use Rattle.std.specs.List.{filter}
use Rattle.std.proofs.lemmas.Bool.{cases_lt, cond-false}
use Rattle.std.proofs.lemmas.List.{get_or_append_left, get_or_at, length-append}
use Rattle.std.proofs.lemmas.List.Folds.{find-append}
use Rattle.std.proofs.lemmas.List.Elements.{filter-append, filter_map-append}
use Rattle.ice_defs.specs.Sum.{numbers_below}
use Rattle.ice_defs.proofs.Choices.{both_none, passes_not}
use Rattle.ice_defs.proofs.Lists.{append_empty}

-- ---- their list

pub length-numbers_below : (n : ℕ) → length (numbers_below n) ≡ n
length-numbers_below zero = refl
length-numbers_below (suc n) = omega (arith, length-append (numbers_below n) (n ∷ []), length-numbers_below n)

-- each stands at its own place
pub get_or-numbers_below : (n i d : ℕ) → i < n → get_or (numbers_below n) i d ≡ i
get_or-numbers_below zero i d h = absurd (omega arith)
get_or-numbers_below (suc n) i d h = by (cases_lt i n) (λ l. get_or-numbers_below n i d l)
  where
    by : (i < n) ⊎ (n ≤ i) → (i < n → get_or (numbers_below n) i d ≡ i) → get_or (numbers_below n ++ n ∷ []) i d ≡ i
    by (inl l) before = get_or_append_left (numbers_below n) (n ∷ []) d i (omega (arith, length-numbers_below n)) ∙ before l
    by (inr l) before =
        let here : n ≡ i = omega arith in
        get_or_at (numbers_below n) n [] d i (length-numbers_below n ∙ here) ∙ here

-- ---- filters

-- a filter keeps no more than there are
pub filter-few : (p : ℕ → Bool) (n : ℕ) → length (filter p (numbers_below n)) ≤ n
filter-few p zero = omega arith
filter-few p (suc n) = by (p n) (filter-few p n)
  where
    by : (b : Bool) → length (filter p (numbers_below n)) ≤ n → length (filter p (numbers_below n ++ n ∷ [])) ≤ suc n
    by b h = omega (arith, ap length (filter-append p (numbers_below n) (n ∷ [])), length-append (filter p (numbers_below n)) (filter p (n ∷ [])), last (p n))
      where
        last : (b : Bool) → length (cond b (n ∷ []) []) ≤ 1
        last true = omega arith
        last false = omega arith

-- a filter of numbers goes by the test below the bound
pub filter-same : (p q : ℕ → Bool) (n : ℕ) → ((k : ℕ) → k < n → p k ≡ q k) → filter p (numbers_below n) ≡ filter q (numbers_below n)
filter-same p q zero same = refl
filter-same p q (suc n) same =
    filter-append p (numbers_below n) (n ∷ [])
    ∙ ap (λ l. l ++ filter p (n ∷ [])) (filter-same p q n (λ k h. same k (omega arith)))
    ∙ ap (λ b. filter q (numbers_below n) ++ cond b (n ∷ []) []) (same n (omega arith))
    ∙ sym (filter-append q (numbers_below n) (n ∷ []))

-- nor anything where no number passes
pub filter-none : (p : ℕ → Bool) (n : ℕ) → ((k : ℕ) → k < n → p k ≡ false) → filter p (numbers_below n) ≡ []
filter-none p zero none = refl
filter-none p (suc n) none =
    filter-append p (numbers_below n) (n ∷ [])
    ∙ ap (λ l. l ++ filter p (n ∷ [])) (filter-none p n (λ k h. none k (omega arith)))
    ∙ ap (λ b. cond b (n ∷ []) []) (none n (omega arith))

-- ---- the values that are there

-- none, where each number has none
pub filter_map-none : {X : Type 0} (f : ℕ → Option X) (n : ℕ) → ((k : ℕ) → k < n → f k ≡ None) → filter_map f (numbers_below n) ≡ []
filter_map-none f zero none = refl
filter_map-none {X} f (suc n) none =
    filter_map-append f (numbers_below n) (n ∷ [])
    ∙ ap (λ l. l ++ filter_map f (n ∷ [])) (filter_map-none f n (λ k h. none k (omega arith)))
    ∙ last (f n) (none n (omega arith)) refl
  where
    last : (o : Option X) → o ≡ None → f n ≡ o → filter_map f (n ∷ []) ≡ []
    last None e is = rw is
    last (Some x) e is = absurd cc

-- and the other way
pub filter_map-each : {X : Type 0} (f : ℕ → Option X) (n : ℕ) → filter_map f (numbers_below n) ≡ [] → (k : ℕ) → k < n → f k ≡ None
filter_map-each f zero e k l = absurd (omega arith)
filter_map-each {X} f (suc n) e k l =
    let (before, here) = append_empty (filter_map f (numbers_below n)) (filter_map f (n ∷ [])) (sym (filter_map-append f (numbers_below n) (n ∷ [])) ∙ e) in
    by (cases_lt k n) (filter_map-each f n before k) (last (f n) refl here)
  where
    last : (o : Option X) → f n ≡ o → filter_map f (n ∷ []) ≡ [] → f n ≡ None
    last None is h = is
    last (Some x) is h = let e : x ∷ [] ≡ [] = sym (rw is) ∙ h in absurd cc

    by : (k < n) ⊎ (n ≤ k) → (k < n → f k ≡ None) → f n ≡ None → f k ≡ None
    by (inl m) old new = old m
    by (inr m) old new = let e : k ≡ n = omega arith in ap f e ∙ new

-- ---- the first that passes

-- a number that isn't found passes no test
pub find-each : (p : ℕ → Bool) (n : ℕ) → find p (numbers_below n) ≡ None → (k : ℕ) → k < n → p k ≡ false
find-each p zero e k l = absurd (omega arith)
find-each p (suc n) e k l =
    let (before, here) = both_none (find p (numbers_below n)) (find p (n ∷ [])) (sym (find-append p (numbers_below n) (n ∷ [])) ∙ e) in
    by (cases_lt k n) (find-each p n before k) (passes_not (p n) n here)
  where
    by : (k < n) ⊎ (n ≤ k) → (k < n → p k ≡ false) → p n ≡ false → p k ≡ false
    by (inl m) old new = old m
    by (inr m) old new = let e : k ≡ n = omega arith in ap p e ∙ new

-- and the other way
pub find-none : (p : ℕ → Bool) (n : ℕ) → ((k : ℕ) → k < n → p k ≡ false) → find p (numbers_below n) ≡ None
find-none p zero none = refl
find-none p (suc n) none =
    find-append p (numbers_below n) (n ∷ []) ∙ ap (λ o. option_or o (find p (n ∷ []))) (find-none p n (λ k l. none k (omega arith))) ∙ cond-false (p n) _ None (none n (omega arith))

-- ---- one number

-- what holds of 0 holds of each number below 1
pub below_one : (P : ℕ → Type 0) → P 0 → (n : ℕ) → n < 1 → P n
below_one P p zero h = p
below_one P p (suc n) h = absurd (omega (arith, h))
