use Rattle.ice_regret_laws.proofs.Trades.{regret_bounds_trades}
use Rattle.ice_regret_laws.proofs.regret_bounds_trades.Goals as goal

pub returns : goal.returns
returns c = regret_bounds_trades
