use Rattle.ice_refute.proofs.Derived.{log_stays}
use Rattle.ice_refute.proofs.laws.logs_stay.Goals as goal

pub returns : goal.returns
returns c = log_stays
