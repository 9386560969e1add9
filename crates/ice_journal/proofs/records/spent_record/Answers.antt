use Rattle.ice_journal.proofs.RecordParts.{none_after, spent_row}
use Rattle.ice_journal.proofs.records.spent_record.Goals as goal

pub returns-in_err-value : goal.returns-in_err-value
returns-in_err-value c = rw c.from_residual.ensures (none_after spent_row c.args.fields c.in_err-value.ensures)
