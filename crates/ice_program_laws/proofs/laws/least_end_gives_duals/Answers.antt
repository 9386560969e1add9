use Rattle.ice_program_laws.proofs.Ends.{least_end_gives_duals}
use Rattle.ice_program_laws.proofs.laws.least_end_gives_duals.Goals as goal

pub returns : goal.returns
returns c = least_end_gives_duals
