use Rattle.ice_fair_laws.proofs.Wholes.{test_is_whole}
use Rattle.ice_fair_laws.proofs.test_is_whole.Goals as goal

pub returns : goal.returns
returns c = test_is_whole
