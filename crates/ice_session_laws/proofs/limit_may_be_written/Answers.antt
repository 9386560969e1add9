use Rattle.ice_session_laws.proofs.Ends.{limit_may_be_written}
use Rattle.ice_session_laws.proofs.limit_may_be_written.Goals as goal

pub returns : goal.returns
returns c = limit_may_be_written
