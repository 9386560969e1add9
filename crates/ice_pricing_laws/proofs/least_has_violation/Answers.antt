use Rattle.ice_pricing_laws.proofs.Ends.{least_has_violation}
use Rattle.ice_pricing_laws.proofs.least_has_violation.Goals as goal

pub returns : goal.returns
returns c = least_has_violation
