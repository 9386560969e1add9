use Rattle.ice_journal.proofs.RecordParts.{none_after, row_row}
use Rattle.ice_journal.proofs.records.row_record.Goals as goal

pub returns-in_err-bidder : goal.returns-in_err-bidder
returns-in_err-bidder c = rw c.from_residual.ensures (none_after row_row c.args.fields c.in_err-bidder.ensures)
