use Rattle.ice_session_laws.proofs.Ends.{opening_may_be_written}
use Rattle.ice_session_laws.proofs.opening_may_be_written.Goals as goal

pub returns : goal.returns
returns c = opening_may_be_written
