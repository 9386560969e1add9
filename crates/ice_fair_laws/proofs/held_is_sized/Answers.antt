use Rattle.ice_fair_laws.proofs.Wholes.{held_is_sized}
use Rattle.ice_fair_laws.proofs.held_is_sized.Goals as goal

pub returns : goal.returns
returns c = held_is_sized
