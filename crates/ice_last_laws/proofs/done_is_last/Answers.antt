use Rattle.ice_last_laws.proofs.Lasts.{done_is_last}
use Rattle.ice_last_laws.proofs.done_is_last.Goals as goal

pub returns : goal.returns
returns c = done_is_last
