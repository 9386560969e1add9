use Rattle.ice_session_laws.proofs.RoundStops.{round_stops}
use Rattle.ice_session_laws.proofs.round_stops.Goals as goal

pub returns : goal.returns
returns c = round_stops
