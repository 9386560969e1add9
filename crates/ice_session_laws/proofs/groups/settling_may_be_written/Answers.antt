use Rattle.ice_session_laws.proofs.Finding.{settling_may_be_written}
use Rattle.ice_session_laws.proofs.groups.settling_may_be_written.Goals as goal

pub returns : goal.returns
returns c = settling_may_be_written
