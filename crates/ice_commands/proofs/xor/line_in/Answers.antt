use Rattle.ice_xor.specs.Translating.{translate_refusal}
use Rattle.ice_commands.proofs.xor.line_in.Goals as goal

pub returns-in-Err-clause-refusal : goal.returns-in-Err-clause-refusal
returns-in-Err-clause-refusal c = c.maker_refusal.ensures (translate_refusal c.args.flat.now) c.in-Err.ensures.refused
