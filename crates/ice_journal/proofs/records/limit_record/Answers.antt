use Rattle.ice_journal.proofs.RecordParts.{none_after, limit_row}
use Rattle.ice_journal.proofs.records.limit_record.Goals as goal

pub returns-in_err-stage : goal.returns-in_err-stage
returns-in_err-stage c = rw c.from_residual.ensures (none_after limit_row c.args.fields c.in_err-stage.ensures)
