use Rattle.ice_search_log.proofs.Logged.{tree_log_leaves}
use Rattle.ice_search_log.proofs.laws.tree_logs_leave.Goals as goal

pub returns : goal.returns
returns c = tree_log_leaves
