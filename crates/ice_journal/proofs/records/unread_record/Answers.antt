use Rattle.ice_journal.proofs.RecordParts.{none_after, unread_row}
use Rattle.ice_journal.proofs.records.unread_record.Goals as goal

pub returns-in_err-file : goal.returns-in_err-file
returns-in_err-file c = rw c.from_residual.ensures (none_after unread_row c.args.fields c.in_err-file.ensures)
