use Rattle.std.proofs.Common.{arith}
use Rattle.ice_audit.proofs.Walked.{none_read}
use Rattle.ice_audit.proofs.auditing.audit.Goals as goal

pub loop-text-init : goal.loop-text-init
loop-text-init c = record { kept = tt; few = omega arith; read = none_read c.args.bytes.now }
