use Rattle.ice_round_laws.proofs.Order.{order_is_free}
use Rattle.ice_round_laws.proofs.order_is_free.Goals as goal

pub returns : goal.returns
returns c = order_is_free
