use Rattle.ice_session_laws.proofs.Rounds.{run_begins}
use Rattle.ice_session_laws.proofs.run_begins.Goals as goal

pub returns : goal.returns
returns c = run_begins
