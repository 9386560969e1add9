-- How large the sums of rows get.
use Rattle.std.proofs.Common.{ℕ, zero, suc, ◌*◌, ◌<◌, ◌≤◌, List, [], ◌∷◌, length, ℤ, pos, ◌*ℤ◌, neg_ℤ, ◌≤ℤ◌, arith, sym, subst}
use Rattle.std.specs.Int.{int_max}
use Rattle.std.specs.List.{AllByRecursion}
use Rattle.std.proofs.lemmas.Int.{ints, clamps}
use Rattle.std.proofs.lemmas.List.Sums.{sum_by-cons}
use Rattle.std.proofs.Math.Nat.{mul-le-mul_right}
use Rattle.std.proofs.Math.IntN.{pos-*ℤ-pos}
use Rattle.ice_defs.specs.Sum.{sum_below}
use Rattle.ice_defs.specs.Rows.{Row, weighted_sum, worth_above, units_above}
use Rattle.ice_defs.proofs.Products.{times_neg, times-le}
use Rattle.ice_row_laws.specs.Sums.{units_in}
use Rattle.ice_row_laws.specs.Sizes.{IsSizedWithin, IsRowWithin, SumsAreWithin}
use Rattle.ice_row_laws.proofs.Weighted.{total_weight}

-- ---- products and sums

times-high : (w k m : ℕ) (z : ℤ) → w ≤ k → z ≤ℤ pos m → (pos w *ℤ z) ≤ℤ pos (k * m)
times-high w k m z few high =
    let most : w * m ≤ k * m = mul-le-mul_right m few in
    omega (arith, ints, times-le w z (pos m) high, pos-*ℤ-pos w m, most)

pub times-within : (w k m : ℕ) (z : ℤ) → w ≤ k → IsSizedWithin m z → IsSizedWithin (k * m) (pos w *ℤ z)
times-within w k m z few is =
    let under : neg_ℤ z ≤ℤ pos m = omega (arith, ints, is.low) in
    record {
      low = omega (arith, ints, times-high w k m (neg_ℤ z) few under, times_neg (pos w) z);
      high = times-high w k m z few is.high;
    }

module _ (Is : Row → Type 0) (k : ℕ) (few : (row : Row) → Is row → row.weight ≤ k) where
  total_weight-le : (rows : List Row) → AllByRecursion Is rows → total_weight rows ≤ length rows * k
  total_weight-le [] are = omega arith
  total_weight-le (row ∷ rows) (one, others) = omega (arith, sum_by-cons (λ (r : Row). r.weight) row rows, few row one, total_weight-le rows others)

  weighted_sum-within : (f : Row → ℤ) (m : ℕ) → ((row : Row) → Is row → IsSizedWithin m (f row)) → (rows : List Row) → AllByRecursion Is rows
      → IsSizedWithin (length rows * (k * m)) (weighted_sum f rows)
  weighted_sum-within f m each [] are = record { low = omega (arith, ints); high = omega (arith, ints) }
  weighted_sum-within f m each (row ∷ rows) (one, others) =
      let first = times-within row.weight k m (f row) (few row one) (each row one) in
      let rest = weighted_sum-within f m each rows others in
      record { low = omega (arith, ints, first.low, rest.low); high = omega (arith, ints, first.high, rest.high) }

wanted-within : (f : ℕ → ℤ) (m n : ℕ) → ((g : ℕ) → g < n → IsSizedWithin m (f g))
    → (pos 0 ≤ℤ sum_below (λ g. int_max (f g) (pos 0)) n) × (sum_below (λ g. int_max (f g) (pos 0)) n ≤ℤ pos (n * m))
wanted-within f m zero each = (omega (arith, ints), omega (arith, ints))
wanted-within f m (suc n) each =
    let last = (each n (omega arith)).high in
    let (low, high) = wanted-within f m n (λ g h. each g (omega arith)) in
    (omega (arith, ints, clamps, low), omega (arith, ints, clamps, high, last))

-- ---- the sums

pub sums_are_within : SumsAreWithin
sums_are_within ts ws sets goods most rows s each are =
    let units : (g : ℕ) → g < goods → IsSizedWithin (length rows * (most.weight * most.units)) (units_in s g) =
    λ g h. subst (IsSizedWithin (length rows * (most.weight * most.units))) (sym (are.units g h))
    (weighted_sum-within (IsRowWithin ts ws sets goods most) most.weight (λ row is. is.weight) (units_above ts ws sets g) most.units (λ row is. is.units g h) rows each) in
    let wanted = wanted-within (units_in s) (length rows * (most.weight * most.units)) goods units in
    record {
      weight = omega (arith, are.weight, total_weight-le (IsRowWithin ts ws sets goods most) most.weight (λ row is. is.weight) rows each);
      worth =
          subst (IsSizedWithin (length rows * (most.weight * most.worth))) (sym are.worth)
          (weighted_sum-within (IsRowWithin ts ws sets goods most) most.weight (λ row is. is.weight) (worth_above ts ws sets) most.worth (λ row is. is.worth) rows each);
      units = units;
      wanted_low = wanted.0;
      wanted_high = wanted.1;
    }
