use Rattle.ice_threshold.proofs.CutTest.{least_passes}
use Rattle.ice_threshold.proofs.laws.least_passes.Goals as goal

pub returns : goal.returns
returns c = least_passes
