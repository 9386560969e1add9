use Rattle.ice_session_laws.proofs.Ends.{spent_may_be_written}
use Rattle.ice_session_laws.proofs.spent_may_be_written.Goals as goal

pub returns : goal.returns
returns c = spent_may_be_written
