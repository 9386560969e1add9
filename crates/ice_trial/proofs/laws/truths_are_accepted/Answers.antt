use Rattle.ice_trial.proofs.Accepted.{truths_are_accepted}
use Rattle.ice_trial.proofs.laws.truths_are_accepted.Goals as goal

pub returns : goal.returns
returns c = truths_are_accepted
