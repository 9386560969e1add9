use Rattle.std.proofs.Common.{◌≡◌, ◌<◌, pos, arith, rules, length, get_or, to_z, of_z}
use mir.Syntax.{w128}
use Rattle.std.proofs.lemmas.Int.{ints}
use Rattle.ice_threshold.specs.CutOff.{cut_num}
use Rattle.ice_threshold.proofs.Levels.{sum_over-drop}
use Rattle.ice_threshold.proofs.payments.sum_cut_off.Goals as goal

pub loop-discount-preserved : goal.loop-discount-preserved
loop-discount-preserved c =
    let part : c.cut_off-sum.result ≡ cut_num (to_z w128 (of_z w128 c.args.num)) c.args.den (get_or c.args.vickrey.now c.loop-discount.discount-index (pos 0)) = search rules in
    let within : c.loop-discount.discount-index < length c.args.vickrey.now = c.loop-discount-test.true in
    let step = sum_over-drop (cut_num (to_z w128 (of_z w128 c.args.num)) c.args.den) c.args.vickrey.now c.loop-discount.discount-index (pos 0) within in
    record {
      sum = omega (arith, ints, part, step, c.loop-discount.invariant.sum);
      low = omega (arith, ints, c.cut_off-sum.ensures.low, c.loop-discount.invariant.low);
      high = omega (arith, ints, c.cut_off-sum.ensures.high, c.loop-discount.invariant.high);
    }
