use Rattle.ice_session_laws.proofs.Ends.{closing_may_be_written}
use Rattle.ice_session_laws.proofs.closing_may_be_written.Goals as goal

pub returns : goal.returns
returns c = closing_may_be_written
