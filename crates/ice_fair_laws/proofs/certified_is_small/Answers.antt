use Rattle.ice_fair_laws.proofs.Small.{certified_is_small}
use Rattle.ice_fair_laws.proofs.certified_is_small.Goals as goal

pub returns : goal.returns
returns c = certified_is_small
