use Rattle.ice_pricing_laws.proofs.Lowered.{accuracy_moves}
use Rattle.ice_pricing_laws.proofs.accuracy_moves.Goals as goal

pub returns : goal.returns
returns c = accuracy_moves
