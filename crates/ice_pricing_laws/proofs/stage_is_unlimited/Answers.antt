use Rattle.ice_pricing_laws.proofs.Scans.{stage_is_unlimited}
use Rattle.ice_pricing_laws.proofs.stage_is_unlimited.Goals as goal

pub returns : goal.returns
returns c = stage_is_unlimited
