use Rattle.ice_pricing_laws.proofs.Certified.{duals_pass_accuracy}
use Rattle.ice_pricing_laws.proofs.duals_pass_accuracy.Goals as goal

pub returns : goal.returns
returns c = duals_pass_accuracy
