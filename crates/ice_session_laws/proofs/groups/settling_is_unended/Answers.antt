use Rattle.ice_session_laws.proofs.Finding.{settling_is_unended}
use Rattle.ice_session_laws.proofs.groups.settling_is_unended.Goals as goal

pub returns : goal.returns
returns c = settling_is_unended
