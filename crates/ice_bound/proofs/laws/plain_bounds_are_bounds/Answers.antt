use Rattle.ice_bound.proofs.Derived.{plain_bound_is_bound}
use Rattle.ice_bound.proofs.laws.plain_bounds_are_bounds.Goals as goal

pub returns : goal.returns
returns c = plain_bound_is_bound
