use Rattle.ice_pricing_laws.proofs.Sizes.{balance_is_sized}
use Rattle.ice_pricing_laws.proofs.balance_is_sized.Goals as goal

pub returns : goal.returns
returns c = balance_is_sized
