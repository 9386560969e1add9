use Rattle.ice_proxy.proofs.Tighter.{tighter_is_accepted}
use Rattle.ice_proxy.proofs.laws.tighter_is_accepted.Goals as goal

pub returns : goal.returns
returns c = tighter_is_accepted
