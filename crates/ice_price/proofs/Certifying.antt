-- Certificates of weights that fit.
use Rattle.std.proofs.Common.{ℕ, ◌<◌, ◌≤◌, ◌≡◌, ◌^◌, List, length, pos, ◌≤ℤ◌, arith, ap, sym, subst, ◌∙◌}
use Rattle.std.specs.List.{AllByRecursion}
use Rattle.ice_defs.specs.Fraction.{Fraction}
use Rattle.ice_defs.specs.PricingRun.{Member, common_den, num_over}
use Rattle.ice_defs.specs.Rows.{Row, Certificate}
use Rattle.ice_pricing_laws.specs.Weights.{rows_with, nums_over}
use Rattle.ice_price.specs.Certified.{IsCertificate}
use Rattle.ice_turns.proofs.LargeWeights.{nums-fit, rows-few, rows-fit}

pub certificate-made : (pool : List Member) (ws : List Fraction) (den : ℕ) (rows : List Row) → den ≡ common_den ws → rows ≡ rows_with pool (nums_over den ws) → 0 < den → den ≤ 2 ^ 32
    → length pool ≤ 200 → AllByRecursion (λ w. pos 0 ≤ℤ num_over den w) ws → AllByRecursion (λ w. num_over den w ≤ℤ pos (2 ^ 32)) ws → IsCertificate pool ws (record { den = den; rows = rows })
certificate-made pool ws den rows e made positive fits few low nums =
    let P : List Row → Type 0 = λ (rs : List Row). AllByRecursion (λ (row : Row). row.weight ≤ 2 ^ 32) rs in
    record {
      value = ap (λ (rs : List Row). let c : Certificate = record { den = den; rows = rs } in c) made
          ∙ ap (λ (d : ℕ). let c : Certificate = record { den = d; rows = rows_with pool (nums_over d ws) } in c) e;
      limited = record {
        positive = positive;
        den_fits = fits;
        few = omega (arith, ap length made, rows-few pool (nums_over den ws), few);
        weights_fit = subst P (sym made) (rows-fit (2 ^ 32) pool (nums_over den ws) (nums-fit (2 ^ 32) den ws low nums));
      };
      den_fits = omega (arith, fits, e);
      nums_fit = subst (λ d. AllByRecursion (λ w. num_over d w ≤ℤ pos (2 ^ 32)) ws) e nums;
    }
