use Rattle.ice_fair_laws.proofs.Turns.{fair_is_shaped}
use Rattle.ice_fair_laws.proofs.fair_is_shaped.Goals as goal

pub returns : goal.returns
returns c = fair_is_shaped
