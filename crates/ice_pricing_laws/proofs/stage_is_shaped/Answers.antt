use Rattle.ice_pricing_laws.proofs.Sizes.{stage_is_shaped}
use Rattle.ice_pricing_laws.proofs.stage_is_shaped.Goals as goal

pub returns : goal.returns
returns c = stage_is_shaped
