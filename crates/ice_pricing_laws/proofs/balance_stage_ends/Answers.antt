use Rattle.ice_pricing_laws.proofs.Ends.{balance_stage_ends}
use Rattle.ice_pricing_laws.proofs.balance_stage_ends.Goals as goal

pub returns : goal.returns
returns c = balance_stage_ends
