use Rattle.std.proofs.Common.{arith}
use Rattle.ice_journal.proofs.RecordParts.{none_after, settle_row}
use Rattle.ice_journal.proofs.records.settle_record.Goals as goal

pub returns-in_err-number : goal.returns-in_err-number
returns-in_err-number c = rw c.from_residual.ensures (none_after settle_row c.args.fields (λ n h e. c.in_err-number.ensures n (omega arith, h) e))
