use Rattle.ice_journal.proofs.RecordParts.{none_after, leaf_row}
use Rattle.ice_journal.proofs.records.leaf_record.Goals as goal

pub returns-in_err-multipliers : goal.returns-in_err-multipliers
returns-in_err-multipliers c = rw c.from_residual.ensures (none_after leaf_row c.args.fields c.in_err-multipliers.ensures)
