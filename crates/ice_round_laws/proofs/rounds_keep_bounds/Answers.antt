use Rattle.ice_round_laws.proofs.Keeping.{rounds_keep_bounds}
use Rattle.ice_round_laws.proofs.rounds_keep_bounds.Goals as goal

pub returns : goal.returns
returns c = rounds_keep_bounds
