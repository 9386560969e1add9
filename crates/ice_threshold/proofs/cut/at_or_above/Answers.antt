use Rattle.std.proofs.Common.{◌≡◌, ◌<◌, ◌+◌, List, ℤ, pos, ◌+ℤ◌, ◌≤ℤ◌, ◌^◌, arith, rules, length, get_or, to_z, of_z}
use mir.Syntax.{w128}
use Rattle.std.proofs.lemmas.Int.{ints}
use Rattle.ice_threshold.specs.Level.{level_part, level_one}
use Rattle.ice_threshold.specs.Limits.{IsVickreyLimit}
use Rattle.ice_threshold.proofs.Levels.{sum_over-drop, level_count-drop, part_low, part_high, one_high}
use Rattle.ice_threshold.proofs.cut.at_or_above.Goals as goal

pub loop-discount-preserved : goal.loop-discount-preserved
loop-discount-preserved c =
    let x : ℤ = to_z w128 (of_z w128 c.args.least) in
    let vs : List ℤ = c.args.vickrey.now in
    let within : c.loop-discount.discount-index < length c.args.vickrey.now = c.loop-discount-test.true in
    let limit : IsVickreyLimit (get_or c.args.vickrey.now c.loop-discount.discount-index (pos 0)) = c.requires.limited _ _ within in
    let sum : c.with-level.result.sum ≡ c.loop-discount.level.sum +ℤ level_part (to_z w128 (of_z w128 c.args.least)) (get_or c.args.vickrey.now c.loop-discount.discount-index (pos 0)) = search rules in
    let count : c.with-level.result.count ≡ c.loop-discount.level.count + level_one (to_z w128 (of_z w128 c.args.least)) (get_or c.args.vickrey.now c.loop-discount.discount-index (pos 0)) = search rules in
    let low : pos 0 ≤ℤ level_part x (get_or vs c.loop-discount.discount-index (pos 0)) = part_low _ _ limit.low in
    let high : level_part x (get_or vs c.loop-discount.discount-index (pos 0)) ≤ℤ pos (10 ^ 15) = part_high _ _ _ limit.high in
    record {
      sum = omega (arith, ints, sum, sum_over-drop (level_part x) vs _ (pos 0) within, c.loop-discount.invariant.sum);
      count = omega (arith, count, level_count-drop x vs _ (pos 0) within, c.loop-discount.invariant.count);
      low = omega (arith, ints, sum, low, c.loop-discount.invariant.low);
      high = omega (arith, ints, sum, high, c.loop-discount.invariant.high);
      few = omega (arith, count, one_high x (get_or vs c.loop-discount.discount-index (pos 0)), c.loop-discount.invariant.few);
    }
