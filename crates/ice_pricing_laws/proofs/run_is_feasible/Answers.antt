use Rattle.ice_pricing_laws.proofs.Ends.{run_is_feasible}
use Rattle.ice_pricing_laws.proofs.run_is_feasible.Goals as goal

pub returns : goal.returns
returns c = run_is_feasible
