use Rattle.ice_journal.proofs.RecordParts.{none_after, near_row}
use Rattle.ice_journal.proofs.records.near_record.Goals as goal

pub returns-in_err-changed : goal.returns-in_err-changed
returns-in_err-changed c = rw c.from_residual.ensures (none_after near_row c.args.fields c.in_err-changed.ensures)
