use Rattle.ice_round_laws.proofs.Entering.{entries_tell_bounds}
use Rattle.ice_round_laws.proofs.entries_tell_bounds.Goals as goal

pub returns : goal.returns
returns c = entries_tell_bounds
