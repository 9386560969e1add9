use Rattle.ice_regret_laws.proofs.Perturbed.{perturbed_attains}
use Rattle.ice_regret_laws.proofs.perturbed_weights_attain_regret.Goals as goal

pub returns : goal.returns
returns c = perturbed_attains
