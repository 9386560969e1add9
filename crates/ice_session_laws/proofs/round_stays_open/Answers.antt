use Rattle.ice_session_laws.proofs.RoundStops.{round_stays_open}
use Rattle.ice_session_laws.proofs.round_stays_open.Goals as goal

pub returns : goal.returns
returns c = round_stays_open
