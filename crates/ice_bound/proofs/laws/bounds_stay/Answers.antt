use Rattle.ice_bound.proofs.Derived.{bound_stays}
use Rattle.ice_bound.proofs.laws.bounds_stay.Goals as goal

pub returns : goal.returns
returns c = bound_stays
