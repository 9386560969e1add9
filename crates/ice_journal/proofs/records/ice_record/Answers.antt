use Rattle.ice_journal.proofs.RecordParts.{none_after, ice_row}
use Rattle.ice_journal.proofs.records.ice_record.Goals as goal

pub returns-in_err-version : goal.returns-in_err-version
returns-in_err-version c = rw c.from_residual.ensures (none_after ice_row c.args.fields c.in_err-version.ensures)
