use Rattle.ice_journal.proofs.RecordParts.{none_after, verdict_row}
use Rattle.ice_journal.proofs.records.verdict_record.Goals as goal

pub returns-in_err-verdict : goal.returns-in_err-verdict
returns-in_err-verdict c = rw c.from_residual.ensures (none_after verdict_row c.args.fields c.in_err-verdict.ensures)
