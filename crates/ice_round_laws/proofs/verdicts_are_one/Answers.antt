use Rattle.ice_round_laws.proofs.Taking.{verdict_is_one}
use Rattle.ice_round_laws.proofs.verdicts_are_one.Goals as goal

pub returns : goal.returns
returns c = verdict_is_one
