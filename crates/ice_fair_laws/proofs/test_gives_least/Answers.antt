use Rattle.ice_fair_laws.proofs.Nearest.{test_gives_least}
use Rattle.ice_fair_laws.proofs.test_gives_least.Goals as goal

pub returns : goal.returns
returns c = test_gives_least
