use Rattle.std.proofs.Common.{◌≡◌, arith, refl, ◌∙◌, length-set}
use Rattle.ice_best.specs.Nets.{node_net, IsNet}
use Rattle.ice_best.proofs.Sales.{put_each}
use Rattle.ice_best.proofs.nets.fill_net_weights.Goals as goal

pub loop-node-preserved : goal.loop-node-preserved
loop-node-preserved c =
    let w = c.loop-node.out in
    let n = c.loop-node.node in
    let i = c.loop-node.invariant in
    rw c.put_net_weight.ensures.put (record {
      nodes = length-set w n _ ∙ i.nodes;
      each = put_each w n _ (λ k z. z ≡ node_net c.args.tree.now c.args.weights.now c.args.scale c.args.rates.now c.args.times k) (omega (arith, i.nodes)) i.each refl;
      small = put_each w n _ (λ k z. IsNet z) (omega (arith, i.nodes)) i.small c.put_net_weight.ensures.small;
    })
