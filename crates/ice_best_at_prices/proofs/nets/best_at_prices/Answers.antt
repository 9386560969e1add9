use Rattle.std.proofs.Common.{rules, ◌≡◌, ◌∙◌, ap, length, replicate}
use Rattle.std.proofs.lemmas.Int.{to_z-of_z}
use mir.Syntax.{w128}
use mir.Val.{SFits}
use Rattle.ice_defs.specs.declared.Mark.TheVariants.{Free}
use Rattle.ice_best.proofs.Sales.{empty_open}
use Rattle.ice_best.proofs.NetValues.{value-small}
use Rattle.ice_best_at_prices.proofs.Best.{best-net}
use Rattle.ice_best_at_prices.proofs.nets.best_at_prices.Goals as goal

pub unreachable-requires : goal.unreachable-requires
unreachable-requires c =
    let free : c.free-fixing.result ≡ replicate (length c.args.tree.now) Free = c.free-fixing.ensures ∙ ap (λ n. replicate n Free) c.nodes-nodes.ensures.value in
    c.in_default.ensures.none _ (empty_open c.args.tree.now c.free-fixing.result free)

pub returns-clause-best : goal.returns-clause-best
returns-clause-best c =
    let free : c.free-fixing.result ≡ replicate (length c.args.tree.now) Free = c.free-fixing.ensures ∙ ap (λ n. replicate n Free) c.nodes-nodes.ensures.value in
    let fits : SFits w128 c.in-Some.net = search rules in
    rw (to_z-of_z w128 c.in-Some.net fits)
    (best-net c.args.tree.now c.args.weights.now c.args.times c.args.prices.now c.net_weights-nets.result c.free-fixing.result c.best.new.out c.in-Some.net
    c.net_weights-nets.ensures.nets free c.in-Some.ensures.greatest c.in-Some.ensures.set.0 c.in-Some.ensures.set.1)

pub returns-clause-low : goal.returns-clause-low
returns-clause-low c =
    let fits : SFits w128 c.in-Some.net = search rules in
    let are = c.net_weights-nets.ensures.nets in
    rw (to_z-of_z w128 c.in-Some.net fits)
    (value-small c.args.tree.now c.best.new.out c.net_weights-nets.result c.in-Some.net c.net_weights-nets.ensures.few
    are.nodes are.small ((c.in-Some.ensures.set.0).0).same_length c.in-Some.ensures.set.1).0

pub returns-clause-high : goal.returns-clause-high
returns-clause-high c =
    let fits : SFits w128 c.in-Some.net = search rules in
    let are = c.net_weights-nets.ensures.nets in
    rw (to_z-of_z w128 c.in-Some.net fits)
    (value-small c.args.tree.now c.best.new.out c.net_weights-nets.result c.in-Some.net c.net_weights-nets.ensures.few
    are.nodes are.small ((c.in-Some.ensures.set.0).0).same_length c.in-Some.ensures.set.1).1
