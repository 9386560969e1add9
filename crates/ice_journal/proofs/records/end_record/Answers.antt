use Rattle.ice_journal.proofs.RecordParts.{none_after, end_row}
use Rattle.ice_journal.proofs.records.end_record.Goals as goal

pub returns-in_err-word : goal.returns-in_err-word
returns-in_err-word c = rw c.from_residual.ensures (none_after end_row c.args.fields c.in_err-word.ensures)
