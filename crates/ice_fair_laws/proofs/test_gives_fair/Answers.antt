use Rattle.ice_fair_laws.proofs.Nearest.{test_gives_fair}
use Rattle.ice_fair_laws.proofs.test_gives_fair.Goals as goal

pub returns : goal.returns
returns c = test_gives_fair
