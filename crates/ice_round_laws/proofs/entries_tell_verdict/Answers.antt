use Rattle.ice_round_laws.proofs.Taking.{entries_tell_verdict}
use Rattle.ice_round_laws.proofs.entries_tell_verdict.Goals as goal

pub returns : goal.returns
returns c = entries_tell_verdict
