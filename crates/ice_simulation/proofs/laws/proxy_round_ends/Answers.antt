use Rattle.ice_simulation.proofs.Running.{proxy_round_ends}
use Rattle.ice_simulation.proofs.laws.proxy_round_ends.Goals as goal

pub returns : goal.returns
returns c = proxy_round_ends
