use Rattle.ice_fair_laws.proofs.Fairs.{fair_is_feasible}
use Rattle.ice_fair_laws.proofs.fair_is_feasible.Goals as goal

pub returns : goal.returns
returns c = fair_is_feasible
