use Rattle.ice_threshold.proofs.CutTest.{passing_is_least}
use Rattle.ice_threshold.proofs.laws.passing_is_least.Goals as goal

pub returns : goal.returns
returns c = passing_is_least
