use Rattle.ice_proxy.proofs.Tighter.{large_improve_asks_nothing}
use Rattle.ice_proxy.proofs.laws.large_improve_asks_nothing.Goals as goal

pub returns : goal.returns
returns c = large_improve_asks_nothing
