use Rattle.ice_round_laws.proofs.Taking.{rounds_go_on}
use Rattle.ice_round_laws.proofs.rounds_go_on.Goals as goal

pub returns : goal.returns
returns c = rounds_go_on
