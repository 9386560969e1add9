use Rattle.ice_session_laws.proofs.Finding.{offer_is_unended}
use Rattle.ice_session_laws.proofs.groups.offer_is_unended.Goals as goal

pub returns : goal.returns
returns c = offer_is_unended
