use Rattle.ice_proxy.proofs.Tighter.{later_is_tighter}
use Rattle.ice_proxy.proofs.laws.later_is_tighter.Goals as goal

pub returns : goal.returns
returns c = later_is_tighter
