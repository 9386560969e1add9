use Rattle.ice_pricing_laws.proofs.Balanced.{least_is_balanced}
use Rattle.ice_pricing_laws.proofs.least_is_balanced.Goals as goal

pub returns : goal.returns
returns c = least_is_balanced
