-- Tests over all numbers below a bound, and choices that no test meets.
use Rattle.std.proofs.Common.{ℕ, zero, suc, ◌<◌, ◌≤◌, ◌≡◌, Bool, true, false, cond, ◌&&◌, List, [], ◌∷◌, ◌++◌, refl, arith, ap, sym, ◌∙◌, ◌⊎◌, inl, inr}
use Rattle.std.specs.List.{list_all}
use Rattle.std.proofs.lemmas.Bool.{cases_lt, and_parts}
use Rattle.ice_defs.specs.Sum.{numbers_below}

-- a choice whose test fails
pub cond-false : {X : Type 0} (b : Bool) (x y z : X) → b ≡ false → y ≡ z → cond b x y ≡ z
cond-false b x y z fails same = ap (λ c. cond c x y) fails ∙ same

-- what holds of 0, 1, 2 and 3
pub below_4 : (P : ℕ → Type 0) → P 0 → P 1 → P 2 → P 3 → (i : ℕ) → i < 4 → P i
below_4 P p0 p1 p2 p3 zero l = p0
below_4 P p0 p1 p2 p3 (suc zero) l = p1
below_4 P p0 p1 p2 p3 (suc (suc zero)) l = p2
below_4 P p0 p1 p2 p3 (suc (suc (suc zero))) l = p3
below_4 P p0 p1 p2 p3 (suc (suc (suc (suc i)))) l = absurd (omega arith)

list_all-append : {X : Type 0} (p : X → Bool) (xs ys : List X) → list_all p (xs ++ ys) ≡ (list_all p xs && list_all p ys)
list_all-append p [] ys = refl
list_all-append p (x ∷ xs) ys = by (p x) _ _ _ (list_all-append p xs ys)
  where
    by : (b c d e : Bool) → c ≡ (d && e) → (b && c) ≡ ((b && d) && e)
    by true c d e same = same
    by false c d e same = refl

-- a test that every number below the bound passes
pub all_below : (p : ℕ → Bool) (n : ℕ) → list_all p (numbers_below n) ≡ true → (k : ℕ) → k < n → p k ≡ true
all_below p zero all k l = absurd (omega arith)
all_below p (suc n) all k l =
    let parts = and_parts _ _ (sym (list_all-append p (numbers_below n) (n ∷ [])) ∙ all) in
    by (cases_lt k n) (λ before. all_below p n parts.0 k before) (and_parts (p n) true parts.1).0
  where
    by : (k < n) ⊎ (n ≤ k) → (k < n → p k ≡ true) → p n ≡ true → p k ≡ true
    by (inl before) first last = first before
    by (inr here) first last = let same : k ≡ n = omega arith in ap p same ∙ last
