use Rattle.ice_refute.proofs.Refutes.{limits_are_kept}
use Rattle.ice_refute.proofs.laws.limits_are_kept.Goals as goal

pub returns : goal.returns
returns c = limits_are_kept
