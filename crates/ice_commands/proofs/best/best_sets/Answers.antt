use Rattle.std.proofs.Common.{◌+◌, ◌≡◌, ◌<◌, ◌≤◌, [], length, take, get_or, arith}
use Rattle.std.proofs.lemmas.List.{take_more, length-take-le}
use Rattle.ice_defs.specs.Exchange.{names_of}
use Rattle.ice_trade.proofs.Weighted.{length-names}
use Rattle.ice_commands.proofs.Bidding.{AreBestSets-append}
use Rattle.ice_commands.proofs.best.best_sets.Goals as goal

pub loop-bidder-preserved : goal.loop-bidder-preserved
loop-bidder-preserved c =
    let ex = c.args.exchange.now in
    let names = names_of ex in
    let i = c.loop-bidder.bidder in
    let few : i < length ex.bidders = omega arith in
    let named : i < length names = omega (arith, length-names ex, few) in
    let le : i ≤ length names = omega (arith, named) in
    let here : i ≡ 0 + length (take i names) = omega (arith, length-take-le i names le) in
    rw (take_more names i [] named, c.in_ok-push.ensures.items)
    (AreBestSets-append ex c.args.prices.now 0 i (take i names) c.loop-bidder.sets.items (get_or names i []) c.best_set-best.result c.loop-bidder.invariant here c.best_set-best.ensures.name c.best_set-best.ensures.best)
