use Rattle.ice_regret_laws.proofs.Trades.{assignments_trade}
use Rattle.ice_regret_laws.proofs.assignments_are_trades.Goals as goal

pub returns : goal.returns
returns c = assignments_trade
