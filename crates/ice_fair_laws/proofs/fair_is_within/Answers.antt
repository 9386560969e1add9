use Rattle.ice_fair_laws.proofs.Fairs.{fair_is_within}
use Rattle.ice_fair_laws.proofs.fair_is_within.Goals as goal

pub returns : goal.returns
returns c = fair_is_within
