use Rattle.ice_pricing_laws.proofs.Sizes.{accuracy_is_sized}
use Rattle.ice_pricing_laws.proofs.accuracy_is_sized.Goals as goal

pub returns : goal.returns
returns c = accuracy_is_sized
