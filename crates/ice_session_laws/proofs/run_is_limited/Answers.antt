use Rattle.ice_session_laws.proofs.Ends.{is_limited}
use Rattle.ice_session_laws.proofs.run_is_limited.Goals as goal

pub returns : goal.returns
returns c = is_limited
