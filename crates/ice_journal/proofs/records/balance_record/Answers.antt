use Rattle.ice_journal.proofs.RecordParts.{none_after, balance_row}
use Rattle.ice_journal.proofs.records.balance_record.Goals as goal

pub returns-in_err-den : goal.returns-in_err-den
returns-in_err-den c = rw c.from_residual.ensures (none_after balance_row c.args.fields c.in_err-den.ensures)
