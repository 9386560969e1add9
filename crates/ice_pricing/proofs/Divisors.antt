-- The greatest common divisor of the prices' denominator and numerators.
use Rattle.std.proofs.Common.{ℕ, ◌≡◌, ◌<◌, ◌≤◌, ◌++◌, [], ◌∷◌, List, ℤ, arith}
use Rattle.std.specs.Prelude.{unsigned_abs}
use Rattle.std.specs.Int.{◌∣◌}
use Rattle.std.specs.List.{AllByRecursion}
use Rattle.std.proofs.lemmas.List.Elements.{All-from_recursion, recursion_from_All, All-weaker}
use Rattle.std.proofs.lemmas.Nat.Gcd.{dvd_refl, dvd_trans, le_of_dvd}
use Rattle.ice_defs.specs.Frac.{gcd}
use Rattle.ice_defs.specs.Prices.{Prices}
use Rattle.ice_defs.specs.Rows.{HasCommonDivisor}
use Rattle.ice_defs.proofs.Lists.{all_push, all-first, all-last}
use Rattle.ice_frac.proofs.Gcd.{IsGcd-gcd, gcd_pos}

abbrev Divides : ℕ → ℤ → Type 0
Divides c num = c ∣ unsigned_abs num

pub record IsShared (den : ℕ) (nums : List ℤ) (shared : ℕ) : Type 0 where
  pub positive : 0 < shared
  pub of_den : shared ∣ den
  pub of_nums : AllByRecursion (λ num. shared ∣ unsigned_abs num) nums
  pub greatest : (c : ℕ) → c ∣ den → AllByRecursion (λ num. c ∣ unsigned_abs num) nums → c ∣ shared

pub shared-none : (den : ℕ) → 0 < den → IsShared den [] den
shared-none den h = record { positive = h; of_den = dvd_refl den; of_nums = tt; greatest = λ c divides all. divides }

pub shared-more : (den : ℕ) (nums : List ℤ) (shared : ℕ) (num : ℤ) → IsShared den nums shared → IsShared den (nums ++ num ∷ []) (gcd (unsigned_abs num) shared)
shared-more den nums shared num is =
    let g : ℕ = gcd (unsigned_abs num) shared in
    let (of_num, of_shared, most) = IsGcd-gcd (unsigned_abs num) shared in
    record {
      positive = gcd_pos (unsigned_abs num) shared is.positive;
      of_den = dvd_trans g of_shared is.of_den;
      of_nums = all_push (Divides g) nums num
          (recursion_from_All (Divides g) nums (All-weaker (Divides shared) (Divides g) (λ n h. dvd_trans g of_shared h) nums (All-from_recursion (Divides shared) nums is.of_nums))) of_num;
      greatest = λ c den_divides all. most c (all-last (Divides c) nums (num ∷ []) all).0 (is.greatest c den_divides (all-first (Divides c) nums (num ∷ []) all));
    }

pub one-shares : (p : Prices) (shared : ℕ) → IsShared p.den p.nums shared → shared ≡ 1 → ¬ HasCommonDivisor p
one-shares p shared is e (c, big, of_den, of_nums) =
    let few : c ≤ shared = le_of_dvd is.positive (is.greatest c of_den of_nums) in
    omega (arith, few, e, big)
