use Rattle.ice_pricing_laws.proofs.Accuracy.{least_is_accurate}
use Rattle.ice_pricing_laws.proofs.least_is_accurate.Goals as goal

pub returns : goal.returns
returns c = least_is_accurate
