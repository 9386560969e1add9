use Rattle.ice_journal.proofs.RecordParts.{none_after, buy_row}
use Rattle.ice_journal.proofs.records.buy_record.Goals as goal

pub returns-in_err-good : goal.returns-in_err-good
returns-in_err-good c = rw c.from_residual.ensures (none_after buy_row c.args.fields c.in_err-good.ensures)
