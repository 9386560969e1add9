use Rattle.ice_program_laws.proofs.Pivot.{pivot_keeps_solutions}
use Rattle.ice_program_laws.proofs.laws.pivot_keeps_solutions.Goals as goal

pub returns : goal.returns
returns c = pivot_keeps_solutions
