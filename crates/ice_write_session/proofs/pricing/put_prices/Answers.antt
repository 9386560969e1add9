use Rattle.std.proofs.Common.{sym, subst}
use Rattle.ice_journal.specs.Ranges.{ArePricesRecord}
use Rattle.ice_journal.proofs.Tested.{prices_are}
use Rattle.ice_write_session.proofs.pricing.put_prices.Goals as goal

pub put_line-requires : goal.put_line-requires
put_line-requires g c = subst ArePricesRecord (sym c.copy.ensures) (prices_are c.args.prices.now c.den-den.ensures.limits)
