use Rattle.ice_fair_laws.proofs.Fairs.{fair_traces_solve}
use Rattle.ice_fair_laws.proofs.fair_traces_solve.Goals as goal

pub returns : goal.returns
returns c = fair_traces_solve
