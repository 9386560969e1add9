use Rattle.ice_journal.proofs.RecordParts.{none_after, payment_row}
use Rattle.ice_journal.proofs.records.payment_record.Goals as goal

pub returns-in_err-name : goal.returns-in_err-name
returns-in_err-name c = rw c.from_residual.ensures (none_after payment_row c.args.fields c.in_err-name.ensures)
