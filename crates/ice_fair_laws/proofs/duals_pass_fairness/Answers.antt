use Rattle.ice_fair_laws.proofs.FairCertified.{duals_pass_fairness}
use Rattle.ice_fair_laws.proofs.duals_pass_fairness.Goals as goal

pub returns : goal.returns
returns c = duals_pass_fairness
