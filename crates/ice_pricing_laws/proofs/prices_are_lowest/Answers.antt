use Rattle.ice_pricing_laws.proofs.Lowest.{prices_are_lowest}
use Rattle.ice_pricing_laws.proofs.prices_are_lowest.Goals as goal

pub returns : goal.returns
returns c = prices_are_lowest
