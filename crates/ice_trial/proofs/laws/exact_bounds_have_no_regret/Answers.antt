use Rattle.ice_trial.proofs.Exact.{exact_bounds_have_no_regret}
use Rattle.ice_trial.proofs.laws.exact_bounds_have_no_regret.Goals as goal

pub returns : goal.returns
returns c = exact_bounds_have_no_regret
