use Rattle.ice_pricing_laws.proofs.Feasible.{accuracy_is_feasible}
use Rattle.ice_pricing_laws.proofs.accuracy_is_feasible.Goals as goal

pub returns : goal.returns
returns c = accuracy_is_feasible
