use Rattle.ice_verdicts.proofs.Leading.{round_goes_on}
use Rattle.ice_verdicts.proofs.laws.round_goes_on.Goals as goal

pub returns : goal.returns
returns c = round_goes_on
