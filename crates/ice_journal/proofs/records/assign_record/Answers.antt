use Rattle.ice_journal.proofs.RecordParts.{none_after, assign_row}
use Rattle.ice_journal.proofs.records.assign_record.Goals as goal

pub returns-in_err-none_left : goal.returns-in_err-none_left
returns-in_err-none_left c = rw c.from_residual.ensures (none_after assign_row c.args.fields c.in_err-none_left.ensures)
