use Rattle.ice_journal.proofs.RecordParts.{none_after, derive_row}
use Rattle.ice_journal.proofs.records.derive_record.Goals as goal

pub returns-in_err-limit : goal.returns-in_err-limit
returns-in_err-limit c = rw c.from_residual.ensures (none_after derive_row c.args.fields c.in_err-limit.ensures)
