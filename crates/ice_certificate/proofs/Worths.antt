-- How much a set is worth at modest weights.
use Rattle.std.proofs.Common.{◌^◌, ◌≤◌, ◌≡◌, Bool, true, false, if◌then◌else◌, length, ℤ, pos, neg_ℤ, ◌≤ℤ◌, arith}
use Rattle.std.proofs.lemmas.Int.{ints}
use Rattle.ice_defs.specs.Set.{NodeSet, Weights, weight_of, has, value}
use Rattle.ice_defs.proofs.Sums.{sum_below-low, sum_below-high}
use Rattle.ice_best.specs.Nets.{AreAtMostTrillion}
use Rattle.ice_row_laws.specs.Sizes.{IsSizedWithin}

part_low : (b : Bool) (z : ℤ) → neg_ℤ (pos 1000000000000) ≤ℤ z → neg_ℤ (pos 1000000000000) ≤ℤ (if b then z else pos 0)
part_low true z h = h
part_low false z h = omega (arith, ints)

part_high : (b : Bool) (z : ℤ) → z ≤ℤ pos 1000000000000 → (if b then z else pos 0) ≤ℤ pos 1000000000000
part_high true z h = h
part_high false z h = omega (arith, ints)

pub value-within : (s : NodeSet) (w : Weights) → length s ≤ 200 → length w ≡ length s → AreAtMostTrillion w → IsSizedWithin (2 ^ 48) (value s w)
value-within s w few same modest =
    let low = sum_below-low (λ n. if has s n then weight_of w n else pos 0) (length s) 1000000000000 (λ n h. part_low (has s n) (weight_of w n) (modest.low n (omega (arith, same, h)))) in
    let high = sum_below-high (λ n. if has s n then weight_of w n else pos 0) (length s) 1000000000000 (λ n h. part_high (has s n) (weight_of w n) (modest.high n (omega (arith, same, h)))) in
    record { low = omega (arith, ints, low, few); high = omega (arith, ints, high, few) }
