use Rattle.ice_pricing_laws.proofs.Feasible.{balance_is_feasible}
use Rattle.ice_pricing_laws.proofs.balance_is_feasible.Goals as goal

pub returns : goal.returns
returns c = balance_is_feasible
