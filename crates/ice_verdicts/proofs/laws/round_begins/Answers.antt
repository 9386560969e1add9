use Rattle.ice_verdicts.proofs.Leading.{round_begins}
use Rattle.ice_verdicts.proofs.laws.round_begins.Goals as goal

pub returns : goal.returns
returns c = round_begins
