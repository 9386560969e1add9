use Rattle.ice_journal.proofs.RecordParts.{none_after, choose_row}
use Rattle.ice_journal.proofs.records.choose_record.Goals as goal

pub returns-in_err-least : goal.returns-in_err-least
returns-in_err-least c = rw c.from_residual.ensures (none_after choose_row c.args.fields c.in_err-least.ensures)
