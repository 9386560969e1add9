use Rattle.ice_regret_laws.proofs.Regrets.{regret_is_one}
use Rattle.ice_regret_laws.proofs.regrets_are_one.Goals as goal

pub returns : goal.returns
returns c = regret_is_one
