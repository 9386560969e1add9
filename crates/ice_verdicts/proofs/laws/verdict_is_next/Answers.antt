use Rattle.ice_verdicts.proofs.Leading.{verdict_is_next}
use Rattle.ice_verdicts.proofs.laws.verdict_is_next.Goals as goal

pub returns : goal.returns
returns c = verdict_is_next
