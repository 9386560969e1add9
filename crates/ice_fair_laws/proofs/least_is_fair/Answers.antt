use Rattle.ice_fair_laws.proofs.Fairs.{least_is_fair}
use Rattle.ice_fair_laws.proofs.least_is_fair.Goals as goal

pub returns : goal.returns
returns c = least_is_fair
