use Rattle.ice_session_laws.proofs.Finding.{offer_may_be_written}
use Rattle.ice_session_laws.proofs.groups.offer_may_be_written.Goals as goal

pub returns : goal.returns
returns c = offer_may_be_written
