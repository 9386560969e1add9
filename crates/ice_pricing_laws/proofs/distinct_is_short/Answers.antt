use Rattle.ice_pricing_laws.proofs.Pigeons.{distinct_is_short}
use Rattle.ice_pricing_laws.proofs.distinct_is_short.Goals as goal

pub returns : goal.returns
returns c = distinct_is_short
