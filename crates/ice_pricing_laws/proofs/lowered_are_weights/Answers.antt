use Rattle.ice_pricing_laws.proofs.Lowered.{lowered_are_weights}
use Rattle.ice_pricing_laws.proofs.lowered_are_weights.Goals as goal

pub returns : goal.returns
returns c = lowered_are_weights
