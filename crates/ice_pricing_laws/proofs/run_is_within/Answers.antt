use Rattle.ice_pricing_laws.proofs.Ends.{run_is_within}
use Rattle.ice_pricing_laws.proofs.run_is_within.Goals as goal

pub returns : goal.returns
returns c = run_is_within
