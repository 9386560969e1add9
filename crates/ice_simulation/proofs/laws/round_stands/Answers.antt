use Rattle.ice_simulation.proofs.Running.{round_stands}
use Rattle.ice_simulation.proofs.laws.round_stands.Goals as goal

pub returns : goal.returns
returns c = round_stands
