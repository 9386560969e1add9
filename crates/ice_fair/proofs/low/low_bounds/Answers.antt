use Rattle.std.proofs.Common.{◌∙◌, ◌<◌, length, arith}
use Rattle.ice_fair.proofs.Lows.{one_bidder_more}
use Rattle.ice_fair.proofs.low.low_bounds.Goals as goal

pub loop-bidder-preserved : goal.loop-bidder-preserved
loop-bidder-preserved c =
    let there : c.loop-bidder.bidder < length c.args.bounds.now = omega (arith, c.loop-bidder-test.true, c.bidders-bidder-end.ensures.value, c.requires.count) in
    c.in_ok-push.ensures.items
    ∙ one_bidder_more c.args.bounds.now c.loop-bidder.low.items c.loop-bidder.bidder c.low_of.result there c.loop-bidder.invariant c.low_of.ensures
