use Rattle.ice_fair_laws.proofs.Fairs.{fair_pool_is_proper}
use Rattle.ice_fair_laws.proofs.fair_pool_is_proper.Goals as goal

pub returns : goal.returns
returns c = fair_pool_is_proper
