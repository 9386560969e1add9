use Rattle.std.proofs.Common.{arith, subst}
use Rattle.ice_defs.specs.Exchange.{AreSettings}
use Rattle.ice_trade.proofs.Unfinished.{IsUnfinished-new}
use Rattle.ice_trade.proofs.maker.ExchangeMaker.new.Goals as goal

pub invariant_of-result : goal.invariant_of-result
invariant_of-result c = rw (c.in_ok-new.ensures, c.in_ok-new-2.ensures) (record {
  unfinished = IsUnfinished-new c.args.settings (subst AreSettings c.settings.view_is c.settings.invariant);
  by_good = (c.in_ok-with_capacity.ensures.empty, omega (arith, c.in_ok-with_capacity.ensures.spare, c.from.ensures));
  by_bidder = (c.in_ok-with_capacity-2.ensures.empty, omega (arith, c.in_ok-with_capacity-2.ensures.spare, c.from-2.ensures));
})
