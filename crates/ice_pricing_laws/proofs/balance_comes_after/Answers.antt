use Rattle.ice_pricing_laws.proofs.Ends.{balance_comes_after}
use Rattle.ice_pricing_laws.proofs.balance_comes_after.Goals as goal

pub returns : goal.returns
returns c = balance_comes_after
