use Rattle.ice_journal.proofs.RecordParts.{none_after, tolled_row}
use Rattle.ice_journal.proofs.records.tolled_record.Goals as goal

pub returns-in_err-tolls : goal.returns-in_err-tolls
returns-in_err-tolls c = rw c.from_residual.ensures (none_after tolled_row c.args.fields c.in_err-tolls.ensures)
