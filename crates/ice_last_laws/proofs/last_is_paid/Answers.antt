use Rattle.ice_last_laws.proofs.Lasts.{last_is_paid}
use Rattle.ice_last_laws.proofs.last_is_paid.Goals as goal

pub returns : goal.returns
returns c = last_is_paid
