use Rattle.ice_check.proofs.Interleaving.{order_keeps_yes}
use Rattle.ice_check.proofs.laws.order_of_rounds_keeps_yes.Goals as goal

pub returns : goal.returns
returns c = order_keeps_yes
