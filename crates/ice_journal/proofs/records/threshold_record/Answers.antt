use Rattle.ice_journal.proofs.RecordParts.{none_after, threshold_row}
use Rattle.ice_journal.proofs.records.threshold_record.Goals as goal

pub returns-in_err-cut : goal.returns-in_err-cut
returns-in_err-cut c = rw c.from_residual.ensures (none_after threshold_row c.args.fields c.in_err-cut.ensures)
