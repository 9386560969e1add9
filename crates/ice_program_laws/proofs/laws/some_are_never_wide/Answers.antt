use Rattle.ice_program_laws.proofs.Skips.{some_are_never_wide}
use Rattle.ice_program_laws.proofs.laws.some_are_never_wide.Goals as goal

pub returns : goal.returns
returns c = some_are_never_wide
