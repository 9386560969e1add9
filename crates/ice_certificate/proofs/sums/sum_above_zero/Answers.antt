use Rattle.std.proofs.Common.{◌≡◌, ◌≤◌, pos, arith, rules, slice_index_or}
use Rattle.std.specs.Int.{int_max}
use mir.Syntax.{w128}
use mir.Val.{SFits}
use Rattle.std.proofs.lemmas.Int.{ints, clamps, to_z-of_z}
use Rattle.ice_defs.specs.Set.{weight_of}
use Rattle.ice_defs.proofs.Sums.{sum_below_more}
use Rattle.ice_certificate.proofs.sums.sum_above_zero.Goals as goal

pub loop-good-preserved : goal.loop-good-preserved
loop-good-preserved c =
    let fits : SFits w128 (slice_index_or c.args.sums.now c.loop-good.good (pos 0)) = search rules in
    let here : c.above_zero-sum.result ≡ int_max (weight_of c.args.sums.now c.loop-good.good) (pos 0) = grind (arith, to_z-of_z, c.above_zero-sum.ensures) in
    let most = c.requires.sized c.loop-good.good c.loop-good-test.true in
    let few : c.loop-good.good ≤ 32 = omega (arith, c.requires.few, c.loop-good-test.true) in
    let more = sum_below_more (λ g. int_max (weight_of c.args.sums.now g) (pos 0)) c.loop-good.good in
    record {
      sum = omega (arith, ints, clamps, more, here, most, few, c.loop-good.invariant.sum, c.loop-good.invariant.low, c.loop-good.invariant.high);
      low = omega (arith, ints, clamps, here, most, few, c.loop-good.invariant.low, c.loop-good.invariant.high);
      high = omega (arith, ints, clamps, here, most, few, c.loop-good.invariant.low, c.loop-good.invariant.high);
    }
