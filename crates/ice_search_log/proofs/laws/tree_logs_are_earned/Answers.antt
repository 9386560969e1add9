use Rattle.ice_search_log.proofs.Logged.{tree_log_is_earned}
use Rattle.ice_search_log.proofs.laws.tree_logs_are_earned.Goals as goal

pub returns : goal.returns
returns c = tree_log_is_earned
