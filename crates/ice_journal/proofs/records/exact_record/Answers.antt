use Rattle.ice_journal.proofs.RecordParts.{none_after, exact_row}
use Rattle.ice_journal.proofs.records.exact_record.Goals as goal

pub returns-in_err-name : goal.returns-in_err-name
returns-in_err-name c = rw c.from_residual.ensures (none_after exact_row c.args.fields c.in_err-name.ensures)
