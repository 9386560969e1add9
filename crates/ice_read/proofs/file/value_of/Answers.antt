use Rattle.std.proofs.Common.{rules}
use Rattle.ice_read.proofs.Bytes.{value_of-none, value_of-some}
use Rattle.ice_read.proofs.file.value_of.Goals as goal

pub returns-in-Ok-clause-value : goal.returns-in-Ok-clause-value
returns-in-Ok-clause-value c = value_of-some c.args.bytes.now _ c.in-Ok.ensures.ok.0 c.in-Ok.ensures.ok.1

pub returns-in-Err-2-clause-value : goal.returns-in-Err-2-clause-value
returns-in-Err-2-clause-value c = λ other. (search rules, value_of-none c.args.bytes.now (c.in-Err.ensures.err (λ memory. search rules)))
