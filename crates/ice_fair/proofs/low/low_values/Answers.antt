use Rattle.std.proofs.Common.{◌≡◌, ◌∙◌, ◌<◌, length, arith, to_z, of_z}
use mir.Syntax.{w64}
use Rattle.std.proofs.lemmas.Int.{ints}
use Rattle.std.proofs.lemmas.List.{take_all}
use Rattle.ice_defs.proofs.Values.{one_value_more}
use Rattle.ice_fair.proofs.low.low_values.Goals as goal

pub loop-node-preserved : goal.loop-node-preserved
loop-node-preserved c =
    let there : c.loop-node.node < length c.args.bounds.now.lo = omega (arith, c.len-node-end.ensures.value, c.loop-node-test.true) in
    let whole : to_z w64 (of_z w64 c.lo.result) ≡ c.lo.result = omega (arith, ints, c.lo.type_inv) in
    c.push.ensures.items
    ∙ one_value_more c.args.bounds.now.lo c.loop-node.values.items c.loop-node.node (to_z w64 (of_z w64 c.lo.result)) there c.loop-node.invariant (whole ∙ c.lo.ensures)

pub returns : goal.returns
returns c =
    c.loop-node.invariant ∙ take_all c.loop-node.node c.args.bounds.now.lo (omega (arith, c.loop-node-test.false, c.len-node-end.ensures.value))
