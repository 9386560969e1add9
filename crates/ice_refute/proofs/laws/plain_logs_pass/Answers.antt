use Rattle.ice_refute.proofs.Derived.{plain_passes}
use Rattle.ice_refute.proofs.laws.plain_logs_pass.Goals as goal

pub returns : goal.returns
returns c = plain_passes
