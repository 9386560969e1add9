use Rattle.ice_session_laws.proofs.Ends.{spends}
use Rattle.ice_session_laws.proofs.run_spends.Goals as goal

pub returns : goal.returns
returns c = spends
