use Rattle.ice_program_laws.proofs.Ends.{infeasible_end_gives_mix}
use Rattle.ice_program_laws.proofs.laws.infeasible_end_gives_mix.Goals as goal

pub returns : goal.returns
returns c = infeasible_end_gives_mix
