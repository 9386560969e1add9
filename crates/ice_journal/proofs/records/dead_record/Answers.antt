use Rattle.std.proofs.Common.{arith}
use Rattle.ice_journal.proofs.RecordParts.{none_after, dead_row}
use Rattle.ice_journal.proofs.records.dead_record.Goals as goal

pub returns-in_err-bidder : goal.returns-in_err-bidder
returns-in_err-bidder c = rw c.from_residual.ensures (none_after dead_row c.args.fields (λ n h e. c.in_err-bidder.ensures n (omega arith, h) e))
