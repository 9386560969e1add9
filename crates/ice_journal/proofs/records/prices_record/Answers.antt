use Rattle.ice_journal.proofs.RecordParts.{none_after, prices_row}
use Rattle.ice_journal.proofs.records.prices_record.Goals as goal

pub returns-in_err-prices : goal.returns-in_err-prices
returns-in_err-prices c = rw c.from_residual.ensures (none_after prices_row c.args.fields c.in_err-prices.ensures)
