use Rattle.ice_regret_laws.proofs.Perturbed.{perturbed_gives_regret}
use Rattle.ice_regret_laws.proofs.perturbed_weights_give_regret.Goals as goal

pub returns : goal.returns
returns c = perturbed_gives_regret
