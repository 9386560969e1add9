use Rattle.ice_session_laws.proofs.Rounds.{round_ends}
use Rattle.ice_session_laws.proofs.round_ends.Goals as goal

pub returns : goal.returns
returns c = round_ends
