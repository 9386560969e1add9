use Rattle.ice_journal.proofs.RecordParts.{none_after, regret_row}
use Rattle.ice_journal.proofs.records.regret_record.Goals as goal

pub returns-in_err-amount : goal.returns-in_err-amount
returns-in_err-amount c = rw c.from_residual.ensures (none_after regret_row c.args.fields c.in_err-amount.ensures)
