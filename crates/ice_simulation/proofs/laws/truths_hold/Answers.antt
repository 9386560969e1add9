use Rattle.ice_simulation.proofs.Holding.{truths_hold}
use Rattle.ice_simulation.proofs.laws.truths_hold.Goals as goal

pub returns : goal.returns
returns c = truths_hold
