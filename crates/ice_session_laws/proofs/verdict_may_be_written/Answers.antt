use Rattle.ice_session_laws.proofs.Verdicts.{verdict_may_be_written}
use Rattle.ice_session_laws.proofs.verdict_may_be_written.Goals as goal

pub returns : goal.returns
returns c = verdict_may_be_written
