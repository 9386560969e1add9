use Rattle.ice_session_laws.proofs.Sessions.{run_is_unended}
use Rattle.ice_session_laws.proofs.run_is_unended.Goals as goal

pub returns : goal.returns
returns c = run_is_unended
