use Rattle.ice_simulation.proofs.Running.{proxy_round_goes_on}
use Rattle.ice_simulation.proofs.laws.proxy_round_goes_on.Goals as goal

pub returns : goal.returns
returns c = proxy_round_goes_on
