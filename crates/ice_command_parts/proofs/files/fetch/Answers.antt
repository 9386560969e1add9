use Rattle.std.proofs.Common.{rules}
use Rattle.ice_command_parts.specs.Refusals.{NoFault}
use Rattle.ice_command_parts.proofs.Refusing.{unread, overlong}
use Rattle.ice_command_parts.proofs.files.fetch.Goals as goal

pub returns-in-Err-Failed-clause-refusal : goal.returns-in-Err-Failed-clause-refusal
returns-in-Err-Failed-clause-refusal g c = unread c.args.file c.args.name.now c.args.limit NoFault _ _ (search rules)

pub returns-in-Err-TooLong-clause-refusal : goal.returns-in-Err-TooLong-clause-refusal
returns-in-Err-TooLong-clause-refusal g c = overlong c.args.file c.args.name.now c.args.limit NoFault _ _ (search rules) (search rules)
