use Rattle.ice_round_laws.proofs.Entering.{entries_go_on}
use Rattle.ice_round_laws.proofs.entries_go_on.Goals as goal

pub returns : goal.returns
returns c = entries_go_on
