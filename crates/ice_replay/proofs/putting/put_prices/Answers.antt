use Rattle.std.proofs.Common.{sym, subst}
use Rattle.ice_journal.specs.Ranges.{ArePricesRecord}
use Rattle.ice_journal.proofs.Tested.{prices_are}
use Rattle.ice_replay.proofs.putting.put_prices.Goals as goal

pub put_record-requires : goal.put_record-requires
put_record-requires g c = subst ArePricesRecord (sym c.copy.ensures) (prices_are c.in-Some.prices c.den-den.ensures.limits)
