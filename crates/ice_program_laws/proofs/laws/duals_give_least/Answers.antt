use Rattle.ice_program_laws.proofs.Weak.{duals_give_least}
use Rattle.ice_program_laws.proofs.laws.duals_give_least.Goals as goal

pub returns : goal.returns
returns c = duals_give_least
