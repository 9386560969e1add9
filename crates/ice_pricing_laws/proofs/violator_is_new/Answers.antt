use Rattle.ice_pricing_laws.proofs.Pools.{violator_is_new}
use Rattle.ice_pricing_laws.proofs.violator_is_new.Goals as goal

pub returns : goal.returns
returns c = violator_is_new
