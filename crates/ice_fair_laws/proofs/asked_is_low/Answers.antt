use Rattle.ice_fair_laws.proofs.Wholes.{asked_is_low}
use Rattle.ice_fair_laws.proofs.asked_is_low.Goals as goal

pub returns : goal.returns
returns c = asked_is_low
