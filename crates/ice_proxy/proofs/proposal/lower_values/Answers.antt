use Rattle.std.proofs.Common.{◌≡◌, ◌∙◌, ◌<◌, ◌≤ℤ◌, ℤ, ◌-ℤ◌, length, arith, ap, sym, to_z, of_z}
use mir.Syntax.{w64}
use Rattle.std.proofs.lemmas.Int.{ints}
use Rattle.std.proofs.lemmas.List.{take_all}
use Rattle.ice_defs.specs.Set.{weight_of}
use Rattle.ice_defs.proofs.Multiples.{one_time}
use Rattle.ice_proxy.specs.Proposals.{width_after_halvings, proposed_lo}
use Rattle.ice_defs.proofs.Values.{one_value_more}
use Rattle.ice_proxy.proofs.Proposals.{length-proposed_lo, weight_of-proposed_lo}
use Rattle.ice_proxy.proofs.proposal.lower_values.Goals as goal

pub loop-node-preserved : goal.loop-node-preserved
loop-node-preserved c =
    let are = c.len-node-end.ensures.bounds in
    let there : c.loop-node.node < length c.args.old.now.lo = omega (arith, c.len-node-end.ensures.value, c.loop-node-test.true) in
    let t : c.loop-node.node < length c.args.truth.now = omega (arith, c.requires.inside.same_length, there) in
    let least = are.low c.loop-node.node there in
    let most = are.high c.loop-node.node there in
    let low : weight_of c.args.old.now.lo c.loop-node.node ≤ℤ weight_of c.args.truth.now c.loop-node.node = omega (arith, ints, c.requires.inside.low c.loop-node.node t, one_time (weight_of c.args.old.now.lo c.loop-node.node)) in
    let high : weight_of c.args.truth.now c.loop-node.node ≤ℤ weight_of c.args.old.now.hi c.loop-node.node = omega (arith, ints, c.requires.inside.high c.loop-node.node t, one_time (weight_of c.args.old.now.hi c.loop-node.node)) in
    let back : to_z w64 (of_z w64 (weight_of c.args.truth.now c.loop-node.node)) ≡ weight_of c.args.truth.now c.loop-node.node = omega (arith, ints, low, high, least, most) in
    let value : c.lower.result ≡ weight_of (proposed_lo c.args.attempt c.args.old.now.lo c.args.truth.now) c.loop-node.node =
    c.lower.ensures ∙ ap (λ (z : ℤ). z -ℤ width_after_halvings c.args.attempt (z -ℤ weight_of c.args.old.now.lo c.loop-node.node)) back
    ∙ sym (weight_of-proposed_lo c.args.attempt c.args.old.now.lo c.args.truth.now c.loop-node.node c.requires.inside.same_length there) in
    let whole : to_z w64 (of_z w64 c.lower.result) ≡ c.lower.result = omega (arith, ints, c.lower.type_inv) in
    c.push.ensures.items
    ∙ one_value_more (proposed_lo c.args.attempt c.args.old.now.lo c.args.truth.now) c.loop-node.values.items c.loop-node.node (to_z w64 (of_z w64 c.lower.result))
    (omega (arith, there, length-proposed_lo c.args.attempt c.args.old.now.lo c.args.truth.now c.requires.inside.same_length)) c.loop-node.invariant (whole ∙ value)

pub returns : goal.returns
returns c =
    c.loop-node.invariant
    ∙ take_all c.loop-node.node (proposed_lo c.args.attempt c.args.old.now.lo c.args.truth.now)
    (omega (arith, c.loop-node-test.false, c.len-node-end.ensures.value, length-proposed_lo c.args.attempt c.args.old.now.lo c.args.truth.now c.requires.inside.same_length))
