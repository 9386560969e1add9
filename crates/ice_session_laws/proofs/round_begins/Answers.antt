use Rattle.ice_session_laws.proofs.Rounds.{round_begins}
use Rattle.ice_session_laws.proofs.round_begins.Goals as goal

pub returns : goal.returns
returns c = round_begins
