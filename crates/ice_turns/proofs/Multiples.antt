-- Least common denominators.
use Rattle.std.proofs.Common.{ℕ, zero, suc, ◌+◌, ◌-◌, ◌*◌, ◌/◌, ◌<◌, ◌≤◌, ◌≡◌, List, [], ◌∷◌, length, drop, get_or, Option, Some, None, IfNone, ap, sym, ◌∙◌, arith}
use Rattle.std.specs.List.{AllByRecursion}
use Rattle.std.proofs.lemmas.List.{drop_more}
use Rattle.std.proofs.lemmas.Nat.Gcd.{le_of_dvd}
use Rattle.std.proofs.Math.Nat.{mul_comm, mul-div_assoc}
use Rattle.ice_defs.specs.Fraction.{Fraction, IsFraction}
use Rattle.ice_defs.specs.Frac.{gcd}
use Rattle.ice_defs.specs.PricingRun.{lcm, common_den}
use Rattle.ice_frac.specs.Lowest.{IsLowest}
use Rattle.ice_frac.proofs.Gcd.{IsGcd-gcd}
use Rattle.ice_pricing_laws.proofs.Dens.{lcm-pos, common_den-pos, dvd-lcm_left, dvd-lcm_right}

pub lcm-turned : (a b : ℕ) → (a / gcd a b) * b ≡ lcm a b
lcm-turned a b = mul_comm (a / gcd a b) b ∙ sym (ap (λ n. n / gcd a b) (mul_comm a b) ∙ mul-div_assoc (gcd a b) b (IsGcd-gcd a b).0)

pub lcm-left : (a b : ℕ) → 0 < a → 0 < b → a ≤ lcm a b
lcm-left a b ha hb = le_of_dvd (lcm-pos a b ha hb) (dvd-lcm_left a b)

pub lcm-right : (a b : ℕ) → 0 < a → 0 < b → b ≤ lcm a b
lcm-right a b ha hb = le_of_dvd (lcm-pos a b ha hb) (dvd-lcm_right a b)

-- that of the last of them is no greater
pub common_den-drop : (fs : List Fraction) (i : ℕ) → AllByRecursion IsFraction fs → common_den (drop i fs) ≤ common_den fs
common_den-drop fs zero are = omega arith
common_den-drop [] (suc i) are = omega arith
common_den-drop (f ∷ fs) (suc i) (is, are) = omega (arith, common_den-drop fs i are, lcm-right f.den (common_den fs) is (common_den-pos fs are))

-- a small least common denominator, and all fractions in lowest terms
pub record IsDen (most : ℕ) (fs : List Fraction) (den : ℕ) : Type 0 where
  pub value : den ≡ common_den fs
  pub fits : den ≤ most
  pub positive : 0 < den
  pub lowest : AllByRecursion IsLowest fs

-- the last ones with one before them
pub drop_before : {X : Type 0} (xs : List X) (place : ℕ) (x : X) → 0 < place → place ≤ length xs → x ≡ get_or xs (place - 1) x → drop (place - 1) xs ≡ x ∷ drop place xs
drop_before xs place x some few is =
    let next : place - 1 + 1 ≡ place = omega arith in
    drop_more xs (place - 1) x (omega arith) ∙ ap (λ y. y ∷ drop (place - 1 + 1) xs) (sym is) ∙ ap (λ n. x ∷ drop n xs) next

pub none_if : {T P : Type 0} → (r : Option T) → P → IfNone r P
none_if None p = p
none_if (Some x) p = tt

-- a multiple that is too large makes the least common denominator so
pub large-drop : (most : ℕ) (fs : List Fraction) (place : ℕ) (f : Fraction) (den : ℕ) → AllByRecursion IsFraction fs → 0 < place → place ≤ length fs → f ≡ get_or fs (place - 1) f
    → IsDen most (drop place fs) den → most < lcm f.den den → most < common_den fs
large-drop most fs place f den are some few is last big =
    let here : common_den (drop (place - 1) fs) ≡ lcm f.den (common_den (drop place fs)) = ap common_den (drop_before fs place f some few is) in
    let own : lcm f.den den ≡ lcm f.den (common_den (drop place fs)) = ap (lcm f.den) last.value in
    omega (arith, big, own, here, common_den-drop fs (place - 1) are)
