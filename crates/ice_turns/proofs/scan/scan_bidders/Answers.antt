use Rattle.std.proofs.Common.{rules}
use Rattle.ice_defs.specs.Fraction.{Below}
use Rattle.ice_turns.proofs.Scanning.{allowed-more}
use Rattle.ice_turns.proofs.scan.scan_bidders.Goals as goal

pub loop-bidder-preserved : goal.loop-bidder-preserved
loop-bidder-preserved c =
    let calm : ¬ Below c.args.most.now (record { num = c.best-best.result.amount; den = c.args.prices.now.den }) = search rules in
    allowed-more c.args.trade.now c.args.prices.now c.args.most.now c.loop-bidder.bidder c.best-best.result.set c.best-best.result.amount c.loop-bidder.invariant c.best-best.ensures.greatest calm
