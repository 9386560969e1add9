use Rattle.std.proofs.Common.{rules, ◌≡◌, ◌<◌, length, [], arith}
use Rattle.std.proofs.lemmas.Int.{to_z-of_z}
use Rattle.std.proofs.lemmas.List.{get_or_read}
use mir.Syntax.{w128}
use mir.Val.{SFits}
use Rattle.ice_defs.specs.Exchange.{trees_of, opening_bounds}
use Rattle.ice_defs.specs.Trade.{tree_of, weights_of}
use Rattle.ice_defs.specs.Weighing.{weighted_weights}
use Rattle.ice_trade.proofs.Weighted.{length-trees}
use Rattle.ice_commands.proofs.Bidding.{weighted_values, best_net}
use Rattle.ice_commands.proofs.best.best_set.Goals as goal

pub best_at_prices-best-requires-clause-nodes : goal.best_at_prices-best-requires-clause-nodes
best_at_prices-best-requires-clause-nodes c =
    let ex = c.args.exchange.now in
    let weights : c.of.result.now ≡ weights_of (weighted_weights ex.settings.weight (opening_bounds ex)) c.args.bidder = search rules in
    let h : c.args.bidder < length (trees_of ex) = omega (arith, length-trees ex, c.requires.bidder) in
    let is = rw c.trees.ensures.value at c.index-trees-bidder.is in
    let tree : c.index-trees-bidder.result ≡ tree_of (trees_of ex) c.args.bidder = get_or_read (trees_of ex) c.args.bidder c.index-trees-bidder.result h is [] in
    rw (weights, tree) (weighted_values ex c.args.bidder c.trees.ensures.lawful c.requires.bidder).count

pub best_at_prices-best-requires-clause-weights : goal.best_at_prices-best-requires-clause-weights
best_at_prices-best-requires-clause-weights c =
    let weights : c.of.result.now ≡ weights_of (weighted_weights c.args.exchange.now.settings.weight (opening_bounds c.args.exchange.now)) c.args.bidder = search rules in
    rw weights (weighted_values c.args.exchange.now c.args.bidder c.trees.ensures.lawful c.requires.bidder).modest

pub returns-clause-best : goal.returns-clause-best
returns-clause-best c =
    let ex = c.args.exchange.now in
    let weights : c.of.result.now ≡ weights_of (weighted_weights ex.settings.weight (opening_bounds ex)) c.args.bidder = search rules in
    let h : c.args.bidder < length (trees_of ex) = omega (arith, length-trees ex, c.requires.bidder) in
    let is = rw c.trees.ensures.value at c.index-trees-bidder.is in
    let tree : c.index-trees-bidder.result ≡ tree_of (trees_of ex) c.args.bidder = get_or_read (trees_of ex) c.args.bidder c.index-trees-bidder.result h is [] in
    let fits : SFits w128 c.best_at_prices-best.result.net = search rules in
    rw (to_z-of_z w128 c.best_at_prices-best.result.net fits)
    (best_net ex c.args.prices.now c.args.bidder c.index-trees-bidder.result c.of.result.now c.best_at_prices-best.result.set c.best_at_prices-best.result.net tree weights c.best_at_prices-best.ensures.best)
