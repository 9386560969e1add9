use Rattle.ice_session_laws.proofs.Sessions.{run_closes}
use Rattle.ice_session_laws.proofs.run_closes.Goals as goal

pub returns : goal.returns
returns c = run_closes
