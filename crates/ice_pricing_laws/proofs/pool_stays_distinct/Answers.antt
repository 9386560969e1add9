use Rattle.ice_pricing_laws.proofs.Pools.{pool_stays_distinct}
use Rattle.ice_pricing_laws.proofs.pool_stays_distinct.Goals as goal

pub returns : goal.returns
returns c = pool_stays_distinct
