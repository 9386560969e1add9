use Rattle.std.proofs.Common.{◌≡◌, rules, refl, subst, to_z, of_z}
use mir.Syntax.{w128}
use Rattle.ice_best.specs.Nets.{node_net, IsNet}
use Rattle.ice_best.proofs.nets.put_net_weight.Goals as goal

pub returns-clause-put : goal.returns-clause-put
returns-clause-put c =
    let value : to_z w128 (of_z w128 c.net_weight.result) ≡ node_net c.args.tree.now c.args.weights.now c.args.scale c.args.rates.now c.args.times c.args.node = search rules in
    rw (c.put.ensures, value) refl

pub returns-clause-small : goal.returns-clause-small
returns-clause-small c =
    let same : c.net_weight.result ≡ node_net c.args.tree.now c.args.weights.now c.args.scale c.args.rates.now c.args.times c.args.node = search rules in
    subst IsNet same c.net_weight.ensures.small
