use Rattle.ice_proxy.proofs.Tighter.{widths_are_halved}
use Rattle.ice_proxy.proofs.laws.widths_are_halved.Goals as goal

pub returns : goal.returns
returns c = widths_are_halved
