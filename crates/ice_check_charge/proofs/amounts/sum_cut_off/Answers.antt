use Rattle.std.proofs.Common.{◌≡◌, ◌<◌, pos, ◌-ℤ◌, arith, rules, length, get_or, to_z, of_z}
use mir.Syntax.{w64}
use Rattle.std.proofs.lemmas.Int.{ints}
use Rattle.ice_threshold.specs.CutOff.{cut_num}
use Rattle.ice_check_charge.proofs.Steps.{sum_over-step}
use Rattle.ice_check_charge.proofs.amounts.sum_cut_off.Goals as goal

pub loop-without-preserved : goal.loop-without-preserved
loop-without-preserved c =
    let total = to_z w64 (of_z w64 c.args.total) in
    let part : c.cut_off-sum.result ≡ cut_num c.args.cut.now.num c.args.cut.now.den (total -ℤ get_or c.args.withouts.now c.loop-without.without-index (pos 0)) = search rules in
    let within : c.loop-without.without-index < length c.args.withouts.now = c.loop-without-test.true in
    let step = sum_over-step (cut_num c.args.cut.now.num c.args.cut.now.den) total c.args.withouts.now c.loop-without.without-index (pos 0) within in
    record {
      sum = omega (arith, ints, part, step, c.loop-without.invariant.sum);
      low = omega (arith, ints, c.cut_off-sum.ensures.low, c.loop-without.invariant.low);
      high = omega (arith, ints, c.cut_off-sum.ensures.high, c.loop-without.invariant.high);
    }
