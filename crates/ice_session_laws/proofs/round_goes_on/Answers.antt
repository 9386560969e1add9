use Rattle.ice_session_laws.proofs.Rounds.{round_goes_on}
use Rattle.ice_session_laws.proofs.round_goes_on.Goals as goal

pub returns : goal.returns
returns c = round_goes_on
