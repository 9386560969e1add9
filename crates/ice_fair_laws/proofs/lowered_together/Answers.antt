use Rattle.ice_fair_laws.proofs.Turns.{lowered_together}
use Rattle.ice_fair_laws.proofs.lowered_together.Goals as goal

pub returns : goal.returns
returns c = lowered_together
