-- The prices of a point.
use Rattle.std.proofs.Common.{ℕ, ◌<◌, ◌≤◌, ◌≡◌, ◌^◌, List, [], ◌∷◌, length, map, take, drop, true, IsTrue, ℤ, pos, ◌≤ℤ◌, arith, refl}
use Rattle.std.specs.Prelude.{int_le}
use Rattle.std.specs.List.{AllByRecursion, list_all}
use Rattle.std.proofs.lemmas.Bool.{and_from}
use Rattle.std.proofs.lemmas.List.{length-map}
use Rattle.std.proofs.lemmas.Int.{ints}
use Rattle.std.proofs.Math.IntN.{*ℤ_comm}
use Rattle.std.proofs.lemmas.List.Elements.{All-from_recursion, recursion_from_All, All-take, All-drop, All-weaker}
use Rattle.ice_defs.specs.Fraction.{Fraction, whole_number, IsFraction, AtMost}
use Rattle.ice_defs.specs.Prices.{price_of, ArePrices}
use Rattle.ice_defs.specs.Program.{AreNonNegative}
use Rattle.ice_defs.specs.PricingRun.{common_den, num_over}
use Rattle.ice_defs.specs.Rows.{HasCommonDivisor}
use Rattle.ice_defs.proofs.Lists.{all-from, map-all}
use Rattle.ice_defs.proofs.Products.{times-le}
use Rattle.ice_frac.specs.Lowest.{IsLowest}
use Rattle.ice_pricing_laws.specs.Lowest.{IsReduced}
use Rattle.ice_pricing_laws.proofs.Lowest.{prices_are_lowest}
use Rattle.ice_terms.specs.Terms.{ArePriceTerms, is_numerator}

pub low-drop : (n : ℕ) (fs : List Fraction) → AreNonNegative fs → AreNonNegative (drop n fs)
low-drop n fs h =
    let P : Fraction → Type 0 = λ f. IsFraction f × AtMost (whole_number (pos 0)) f in
    recursion_from_All P (drop n fs) (All-drop P n fs (All-from_recursion P fs h))

pub lowest-reduced : (fs : List Fraction) → AllByRecursion IsLowest fs → ¬ HasCommonDivisor (record { den = common_den fs; nums = map (num_over (common_den fs)) fs })
lowest-reduced fs h =
    prices_are_lowest fs (recursion_from_All IsReduced fs (All-weaker IsLowest IsReduced (λ f is. (is.positive, is.coprime)) fs (All-from_recursion IsLowest fs h)))

-- prices within the cap have small numerators
module _ (fs : List Fraction) (goods den : ℕ) (cap : ℤ) (within : ArePrices goods cap (record { den = den; nums = map (num_over den) fs })) where
  numerators : (P : ℤ → Type 0) → ((g : ℕ) → g < goods → P (price_of (record { den = den; nums = map (num_over den) fs }) g)) → AllByRecursion (λ f. P (num_over den f)) fs
  numerators P each = map-all P (num_over den) fs (all-from P (map (num_over den) fs) (pos 0) (λ i h. each i (omega (arith, h, within.same_length))))

  pub nums-high : den ≤ 2 ^ 32 → cap ≤ℤ pos 1000000000 → AllByRecursion (λ f. num_over den f ≤ℤ pos (2 ^ 62)) fs
  nums-high few most =
      numerators (λ z. z ≤ℤ pos (2 ^ 62))
      (λ g h. let high = within.high g h in let more = times-le den cap (pos 1000000000) most in omega (arith, ints, high, more, few, *ℤ_comm cap (pos den)))

-- small numerators over a small denominator are terms of prices
numerator-is : (n : ℤ) → pos 0 ≤ℤ n → n ≤ℤ pos (2 ^ 62) → is_numerator n ≡ true
numerator-is n low high = and_from (int_le (pos 0) n) (int_le n (pos (2 ^ 62))) (grind (arith, ints, low)) (grind (arith, ints, high))

numerators-are : (den : ℕ) (fs : List Fraction) → AllByRecursion (λ f. pos 0 ≤ℤ num_over den f) fs → AllByRecursion (λ f. num_over den f ≤ℤ pos (2 ^ 62)) fs → IsTrue (list_all is_numerator (map (num_over den) fs))
numerators-are den [] low high = refl
numerators-are den (f ∷ fs) (low, lows) (high, highs) = and_from (is_numerator (num_over den f)) (list_all is_numerator (map (num_over den) fs)) (numerator-is (num_over den f) low high) (numerators-are den fs lows highs)

pub terms-of : (fs : List Fraction) (den : ℕ) → 0 < den → den ≤ 2 ^ 32 → 1 ≤ length fs → length fs ≤ 32 → AllByRecursion (λ f. pos 0 ≤ℤ num_over den f) fs
    → AllByRecursion (λ f. num_over den f ≤ℤ pos (2 ^ 62)) fs → ArePriceTerms (record { den = den; nums = map (num_over den) fs })
terms-of fs den positive fits some few low high = record {
  den = (omega (arith, positive), fits);
  count = (omega (arith, some, length-map fs (num_over den)), omega (arith, few, length-map fs (num_over den)));
  each = numerators-are den fs low high;
}

pub low-front : (n : ℕ) (fs : List Fraction) → AreNonNegative fs → AreNonNegative (take n fs)
low-front n fs h =
    let P : Fraction → Type 0 = λ f. IsFraction f × AtMost (whole_number (pos 0)) f in
    recursion_from_All P (take n fs) (All-take P n fs (All-from_recursion P fs h))
