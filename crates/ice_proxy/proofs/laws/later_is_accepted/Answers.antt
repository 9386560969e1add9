use Rattle.ice_proxy.proofs.Tighter.{later_is_accepted}
use Rattle.ice_proxy.proofs.laws.later_is_accepted.Goals as goal

pub returns : goal.returns
returns c = later_is_accepted
