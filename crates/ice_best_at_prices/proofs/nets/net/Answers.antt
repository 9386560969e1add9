use Rattle.std.proofs.Common.{rules, sym, ◌∙◌}
use Rattle.std.proofs.lemmas.Int.{to_z-of_z}
use mir.Syntax.{w128}
use mir.Val.{SFits}
use Rattle.ice_best.proofs.NetValues.{value-nets, value-small}
use Rattle.ice_best_at_prices.proofs.nets.net.Goals as goal

pub returns-clause-value : goal.returns-clause-value
returns-clause-value c =
    let fits : SFits w128 c.value.result = search rules in
    rw (to_z-of_z w128 c.value.result fits)
    (c.value.ensures.value ∙ value-nets c.args.tree.now c.args.weights.now c.args.prices.now.den c.args.prices.now.nums c.args.times c.net_weights.result c.args.set.now c.net_weights.ensures.nets c.requires.set)

pub returns-clause-low : goal.returns-clause-low
returns-clause-low c =
    let fits : SFits w128 c.value.result = search rules in
    rw (to_z-of_z w128 c.value.result fits)
    (value-small c.args.tree.now c.args.set.now c.net_weights.result c.value.result c.net_weights.ensures.few c.net_weights.ensures.nets.nodes
    c.net_weights.ensures.nets.small c.requires.set (sym c.value.ensures.value)).0

pub returns-clause-high : goal.returns-clause-high
returns-clause-high c =
    let fits : SFits w128 c.value.result = search rules in
    rw (to_z-of_z w128 c.value.result fits)
    (value-small c.args.tree.now c.args.set.now c.net_weights.result c.value.result c.net_weights.ensures.few c.net_weights.ensures.nets.nodes
    c.net_weights.ensures.nets.small c.requires.set (sym c.value.ensures.value)).1
