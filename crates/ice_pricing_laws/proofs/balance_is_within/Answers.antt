use Rattle.ice_pricing_laws.proofs.Feasible.{balance_is_within}
use Rattle.ice_pricing_laws.proofs.balance_is_within.Goals as goal

pub returns : goal.returns
returns c = balance_is_within
