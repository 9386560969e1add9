use Rattle.ice_pricing_laws.proofs.Ends.{accuracy_stage_ends}
use Rattle.ice_pricing_laws.proofs.accuracy_stage_ends.Goals as goal

pub returns : goal.returns
returns c = accuracy_stage_ends
