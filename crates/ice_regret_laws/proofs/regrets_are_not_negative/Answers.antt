use Rattle.ice_regret_laws.proofs.Regrets.{regret_is_not_negative}
use Rattle.ice_regret_laws.proofs.regrets_are_not_negative.Goals as goal

pub returns : goal.returns
returns c = regret_is_not_negative
