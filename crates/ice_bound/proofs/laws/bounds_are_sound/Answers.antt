use Rattle.ice_bound.proofs.Above.{bound_is_sound}
use Rattle.ice_bound.proofs.laws.bounds_are_sound.Goals as goal

pub returns : goal.returns
returns c = bound_is_sound
