use Rattle.ice_journal.proofs.RecordParts.{none_after, amounts_row}
use Rattle.ice_journal.proofs.records.amounts_record.Goals as goal

pub returns-in_err-bidder : goal.returns-in_err-bidder
returns-in_err-bidder c = rw c.from_residual.ensures (none_after amounts_row c.args.fields c.in_err-bidder.ensures)
