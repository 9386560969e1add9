use Rattle.ice_pricing_laws.proofs.Pools.{run_pool_is_proper}
use Rattle.ice_pricing_laws.proofs.run_pool_is_proper.Goals as goal

pub returns : goal.returns
returns c = run_pool_is_proper
