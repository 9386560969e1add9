use Rattle.ice_round_laws.proofs.Taking.{verdicts_make_round}
use Rattle.ice_round_laws.proofs.verdicts_make_round.Goals as goal

pub returns : goal.returns
returns c = verdicts_make_round
