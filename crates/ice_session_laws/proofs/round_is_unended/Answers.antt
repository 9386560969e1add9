use Rattle.ice_session_laws.proofs.RoundStops.{round_is_unended}
use Rattle.ice_session_laws.proofs.round_is_unended.Goals as goal

pub returns : goal.returns
returns c = round_is_unended
