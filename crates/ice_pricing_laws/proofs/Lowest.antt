-- Prices over the least common denominator of their lowest terms.
use Rattle.std.proofs.Common.{ℕ, suc, ◌*◌, ◌/◌, ◌<◌, ◌≤◌, ◌≡◌, List, [], ◌∷◌, ℤ, pos, negsuc, ◌*ℤ◌, refl, arith, ap, sym, subst, ◌∙◌}
use Rattle.std.specs.Prelude.{unsigned_abs}
use Rattle.std.specs.Int.{◌∣◌}
use Rattle.std.specs.List.{AllByRecursion}
use Rattle.std.proofs.lemmas.Nat.Gcd.{dvd_refl, dvd_trans, le_of_dvd}
use Rattle.std.proofs.Math.Nat.{mul_comm, mul-one, mul-div_assoc, mul-div_cancel', div-mul_cancel, one-dvd, mul-dvd-mul_left, dvd_of_mul-dvd-mul_left, dvd_of_mul-dvd-mul_right, pos_of_dvd_of_pos, mul-le-mul_left}
use Rattle.ice_defs.specs.Fraction.{Fraction, IsFraction}
use Rattle.ice_defs.specs.Frac.{gcd}
use Rattle.ice_defs.specs.PricingRun.{lcm, common_den, num_over}
use Rattle.ice_defs.proofs.Lists.{map-all}
use Rattle.ice_defs.proofs.Integers.{unsigned_abs-neg}
use Rattle.ice_frac.proofs.Gcd.{IsGcd-gcd, gcd_pos, gcd-mul, gcd_comm, coprime-div, dvd_from_coprime, part_dvd}
use Rattle.ice_frac.proofs.Ring.{neg_pos_mul}
use Rattle.ice_pricing_laws.specs.Lowest.{IsReduced, PricesAreLowest}
use Rattle.ice_pricing_laws.proofs.Lists.{all-each}
use Rattle.ice_pricing_laws.proofs.Dens.{common_den-pos, dvd-lcm_left, dvd-lcm_right}

-- a common multiple is one of the least
lcm-least : (a b m : ℕ) → 0 < a → 0 < b → a ∣ m → b ∣ m → lcm a b ∣ m
lcm-least a b m ha hb am bm =
    let g : ℕ = gcd a b in
    let hg : 0 < g = gcd_pos a b hb in
    let ea : g * (a / g) ≡ a = mul-div_cancel' g (IsGcd-gcd a b).0 in
    let eb : g * (b / g) ≡ b = mul-div_cancel' g (IsGcd-gcd a b).1 in
    let em : a * (m / a) ≡ m = mul-div_cancel' a am in
    let turned : m ≡ g * ((a / g) * (m / a)) = sym em ∙ ap (λ z. z * (m / a)) (sym ea) ∙ (let e : (g * (a / g)) * (m / a) ≡ g * ((a / g) * (m / a)) = omega arith in e) in
    let scaled : g * (b / g) ∣ g * ((a / g) * (m / a)) = subst (λ z. z ∣ g * ((a / g) * (m / a))) (sym eb) (subst (λ z. b ∣ z) turned bm) in
    let part : b / g ∣ (a / g) * (m / a) = dvd_of_mul-dvd-mul_left (b / g) hg scaled in
    let one : gcd (b / g) (a / g) ≡ 1 = gcd_comm (b / g) (a / g) ∙ coprime-div a b hb in
    let left : b / g ∣ m / a = dvd_from_coprime (b / g) (a / g) (m / a) one part in
    subst (λ z. z ∣ m) (sym (mul-div_assoc g a (IsGcd-gcd a b).1)) (subst (λ z. a * (b / g) ∣ z) em (mul-dvd-mul_left (b / g) a left))

common_den-least : (fs : List Fraction) (m : ℕ) → AllByRecursion IsFraction fs → AllByRecursion (λ f. f.den ∣ m) fs → common_den fs ∣ m
common_den-least [] m are each = one-dvd m
common_den-least (f ∷ fs) m (is, are) (one, others) = lcm-least f.den (common_den fs) m is (common_den-pos fs are) one (common_den-least fs m are others)

dens-divide : (fs : List Fraction) (m : ℕ) → common_den fs ∣ m → AllByRecursion (λ f. f.den ∣ m) fs
dens-divide [] m h = tt
dens-divide (f ∷ fs) m h = (dvd_trans f.den (dvd-lcm_left f.den (common_den fs)) h, dens-divide fs m (dvd_trans (common_den fs) (dvd-lcm_right f.den (common_den fs)) h))

abs-times : (z : ℤ) (k : ℕ) → unsigned_abs (z *ℤ pos k) ≡ unsigned_abs z * k
abs-times (pos n) k = refl
abs-times (negsuc n) k = ap unsigned_abs (neg_pos_mul (suc n) k) ∙ unsigned_abs-neg (pos (suc n * k))

-- what divides the denominator and the numerator over it divides what is left of the denominator
shared : (c l : ℕ) (f : Fraction) → 0 < l → IsReduced f → f.den ∣ l → c ∣ l → c ∣ unsigned_abs (num_over l f) → f.den * c ∣ l
shared c l f hl (is, one) dl cl cn =
    let t : ℕ = l / f.den in
    let e : f.den * t ≡ l = mul-div_cancel' f.den dl in
    let ht : 0 < t = pos_of_dvd_of_pos (part_dvd l f.den dl) hl in
    let n : ℕ = unsigned_abs f.num in
    let num : c ∣ t * n = subst (λ z. c ∣ z) (abs-times f.num t ∙ mul_comm n t) cn in
    let den : c ∣ t * f.den = subst (λ z. c ∣ z) (sym e ∙ mul_comm f.den t) cl in
    let gcd_is : gcd (t * n) (t * f.den) ≡ t = gcd-mul t n f.den ht ∙ ap (λ z. t * z) one ∙ mul-one t in
    let left : c ∣ t = subst (λ z. c ∣ z) gcd_is ((IsGcd-gcd (t * n) (t * f.den)).2 c num den) in
    subst (λ z. f.den * c ∣ z) e (mul-dvd-mul_left c f.den left)

all-both : {X : Type 0} (P Q R S : X → Type 0) (xs : List X) → ((x : X) → P x → Q x → R x → S x) → AllByRecursion P xs → AllByRecursion Q xs → AllByRecursion R xs → AllByRecursion S xs
all-both P Q R S [] each p q r = tt
all-both P Q R S (x ∷ xs) each (p, ps) (q, qs) (r, rs) = (each x p q r, all-both P Q R S xs each ps qs rs)

pub prices_are_lowest : PricesAreLowest
prices_are_lowest fs are (c, big, den, nums) =
    let l : ℕ = common_den fs in
    let proper = all-each IsReduced IsFraction fs (λ f h. h.0) are in
    let hl : 0 < l = common_den-pos fs proper in
    let each : AllByRecursion (λ f. c ∣ unsigned_abs (num_over l f)) fs = map-all (λ num. c ∣ unsigned_abs num) (num_over l) fs nums in
    let k : ℕ = l / c in
    let e : k * c ≡ l = div-mul_cancel c den in
    let hk : 0 < k = pos_of_dvd_of_pos (part_dvd l c den) hl in
    let dens : AllByRecursion (λ f. f.den ∣ k) fs =
    all-both IsReduced (λ f. f.den ∣ l) (λ f. c ∣ unsigned_abs (num_over l f)) (λ f. f.den ∣ k) fs
    (λ f is dl cn. dvd_of_mul-dvd-mul_right f.den (omega (arith, big)) (subst (λ z. f.den * c ∣ z) (sym e) (shared c l f hl is dl den cn))) are (dens-divide fs l (dvd_refl l)) each in
    let most : l ≤ k = le_of_dvd hk (common_den-least fs k proper dens) in
    let two : k * 2 ≤ k * c = mul-le-mul_left k (omega (arith, big)) in
    absurd (omega (arith, most, e, two, hk))
