use Rattle.std.proofs.Common.{◌≡◌, ◌+ℤ◌, arith, rules, to_z, of_z}
use Rattle.std.proofs.lemmas.Int.{ints, to_z-of_z}
use mir.Syntax.{w128}
use mir.Val.{SFits}
use Rattle.ice_bound.proofs.Totals.{total_fits}
use Rattle.ice_derived.proofs.Totals.{floor_bound}
use Rattle.ice_derived.specs.Weighing.{weights_in}
use Rattle.ice_derived.proofs.bounds.bound_with.Goals as goal

pub returns-in-Ok : goal.returns-in-Ok
returns-in-Ok c =
    let fits : SFits w128 c.floor_4096th.result = search rules in
    let same_total : to_z w128 (of_z w128 c.in-Ok.total) ≡ c.in-Ok.total = search rules in
    let same_limits : to_z w128 (of_z w128 c.on_limits.result) ≡ c.on_limits.result = search rules in
    let sum_fits : SFits w128 (c.in-Ok.total +ℤ c.on_limits.result)
    = total_fits _ (omega (arith, ints, c.in-Ok.ensures.low, c.on_limits.ensures.low)) (omega (arith, ints, c.in-Ok.ensures.high, c.on_limits.ensures.high)) in
    let same_sum = to_z-of_z w128 (c.in-Ok.total +ℤ c.on_limits.result) sum_fits in
    rw (to_z-of_z w128 c.floor_4096th.result fits)
    (floor_bound c.args.derived.now.goods c.args.derived.now.tolls c.args.trees.now (weights_in c.args.weights.now) c.args.m.now c.args.fixings.now c.in-Ok.total c.on_limits.result c.floor_4096th.result
    c.on_limits.ensures.value c.in-Ok.ensures.sum
    (rw (same_total, same_limits, same_sum) at c.floor_4096th.ensures.low) (rw (same_total, same_limits, same_sum) at c.floor_4096th.ensures.high))
