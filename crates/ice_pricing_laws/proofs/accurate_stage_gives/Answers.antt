use Rattle.ice_pricing_laws.proofs.Ends.{accurate_stage_gives}
use Rattle.ice_pricing_laws.proofs.accurate_stage_gives.Goals as goal

pub returns : goal.returns
returns c = accurate_stage_gives
