use Rattle.ice_journal.proofs.RecordParts.{none_after, set_row}
use Rattle.ice_journal.proofs.records.set_record.Goals as goal

pub returns-in_err-set : goal.returns-in_err-set
returns-in_err-set c = rw c.from_residual.ensures (none_after set_row c.args.fields c.in_err-set.ensures)
