use Rattle.std.proofs.Common.{rules, ◌≤◌, length}
use Rattle.ice_trade.proofs.Unfinished.{IsUnfinished-finished}
use Rattle.ice_trade.proofs.maker.ExchangeMaker.finish.Goals as goal

pub invariant_of-result : goal.invariant_of-result
invariant_of-result c =
    let good : 1 ≤ length c.self.inside.goods = search rules in
    let bidder : 1 ≤ length c.self.inside.bidders = search rules in
    IsUnfinished-finished _ c.self.invariant.unfinished good bidder

pub returns-clause-lawful : goal.returns-clause-lawful
returns-clause-lawful c =
    let good : 1 ≤ length c.self.inside.goods = search rules in
    let bidder : 1 ≤ length c.self.inside.bidders = search rules in
    IsUnfinished-finished _ c.self.invariant.unfinished good bidder
