use Rattle.ice_journal.proofs.RecordParts.{none_after, accuracy_row}
use Rattle.ice_journal.proofs.records.accuracy_record.Goals as goal

pub returns-in_err-violation : goal.returns-in_err-violation
returns-in_err-violation c = rw c.from_residual.ensures (none_after accuracy_row c.args.fields c.in_err-violation.ensures)
