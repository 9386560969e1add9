use Rattle.ice_program_laws.proofs.Weak.{mix_gives_infeasible}
use Rattle.ice_program_laws.proofs.laws.mix_gives_infeasible.Goals as goal

pub returns : goal.returns
returns c = mix_gives_infeasible
