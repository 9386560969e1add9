use Rattle.std.proofs.Common.{sym, subst, arith}
use Rattle.ice_defs.specs.Exchange.{trees_of}
use Rattle.ice_tree.specs.Alike.{HasWeightPerNode}
use Rattle.ice_pricing.specs.Provisional.{AreModest}
use Rattle.ice_pricing.proofs.Weighing.{weighted-nodes, weighted-each}
use Rattle.ice_check_offer.proofs.pricing.trade_at.Goals as goal

pub of-requires-clause-nodes : goal.of-requires-clause-nodes
of-requires-clause-nodes c =
    subst (HasWeightPerNode (trees_of c.args.exchange.now)) (sym c.requires.weights)
    (weighted-nodes c.args.exchange.now c.args.judge.now.bounds c.args.exchange.now.settings.weight
    (record { count = c.requires.round.bounds_count; each = λ b h. c.requires.round.bounds b (omega (arith, h, c.requires.round.bounds_count)) }))

pub of-requires-clause-modest : goal.of-requires-clause-modest
of-requires-clause-modest c =
    subst AreModest (sym c.requires.weights)
    (weighted-each c.args.exchange.now c.args.judge.now.bounds c.args.exchange.now.settings.weight c.bidders-bidders.ensures.lawful.settings.weight
    (record { count = c.requires.round.bounds_count; each = λ b h. c.requires.round.bounds b (omega (arith, h, c.requires.round.bounds_count)) }))
