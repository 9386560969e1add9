use Rattle.std.proofs.Common.{◌≡◌, ◌<◌, length, length-set, get_or-set_other, pos, ℤ, ◌-ℤ◌, ◌∙◌, arith, rules, sym, subst, to_z, of_z}
use mir.Syntax.{w128}
use Rattle.ice_defs.specs.Set.{weight_of, IsSmall}
use Rattle.ice_best.specs.Nets.{IsNet}
use Rattle.ice_best.proofs.Sales.{put_each}
use Rattle.ice_derived.specs.Charges.{IsCharge}
use Rattle.ice_derived.proofs.nets.charge.Goals as goal

minus : {a b x y : ℤ} → a ≡ b → x ≡ y → a -ℤ x ≡ b -ℤ y
minus e d = cc

pub less-rest-requires-clause-net : goal.less-rest-requires-clause-net
less-rest-requires-clause-net c =
    let n = c.loop-node.node in
    let there : n < length c.args.nets.now = omega (arith, c.requires.nodes) in
    let same : to_z w128 (of_z w128 c.get-net.result) ≡ c.get-net.result = search rules in
    rw same (subst IsNet (sym (c.get-net.ensures.value ∙ c.loop-node.invariant.left n (omega arith))) (c.requires.small n there))

pub less-rest-requires-clause-charge : goal.less-rest-requires-clause-charge
less-rest-requires-clause-charge c =
    let n = c.loop-node.node in
    let there : n < length c.args.charges.now = omega (arith, c.requires.charges) in
    let same : to_z w128 (of_z w128 c.get-charge.result) ≡ c.get-charge.result = search rules in
    rw same (subst IsCharge (sym c.get-charge.ensures.value) (c.requires.range n there))

pub loop-node-preserved : goal.loop-node-preserved
loop-node-preserved c =
    let w = c.loop-node.nets in
    let n = c.loop-node.node in
    let i = c.loop-node.invariant in
    let inside : n < length w = omega (arith, i.nodes) in
    let same : to_z w128 (of_z w128 c.less-rest.result) ≡ c.less-rest.result = search rules in
    let same_net : to_z w128 (of_z w128 c.get-net.result) ≡ c.get-net.result = search rules in
    let same_charge : to_z w128 (of_z w128 c.get-charge.result) ≡ c.get-charge.result = search rules in
    let is : c.less-rest.result ≡ c.get-net.result -ℤ c.get-charge.result = rw (same_net, same_charge) at c.less-rest.ensures.value in
    let value : c.less-rest.result ≡ weight_of c.args.nets.now n -ℤ weight_of c.args.charges.now n = is ∙ minus (c.get-net.ensures.value ∙ i.left n (omega arith)) c.get-charge.ensures.value in
    rw (c.put.ensures, same) (record {
      nodes = length-set w n _ ∙ i.nodes;
      done = put_each w n c.less-rest.result (λ k z. z ≡ weight_of c.args.nets.now k -ℤ weight_of c.args.charges.now k) inside i.done value;
      small = put_each w n c.less-rest.result (λ k z. IsSmall z) inside i.small c.less-rest.ensures.small;
      left = λ k h. get_or-set_other w n k _ (pos 0) (omega arith) ∙ i.left k (omega arith);
    })
