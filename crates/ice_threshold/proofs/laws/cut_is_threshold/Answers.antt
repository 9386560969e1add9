use Rattle.ice_threshold.proofs.OneCut.{cut_is_threshold}
use Rattle.ice_threshold.proofs.laws.cut_is_threshold.Goals as goal

pub returns : goal.returns
returns c = cut_is_threshold
