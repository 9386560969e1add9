use Rattle.ice_search_log.proofs.Logged.{tree_log_passes}
use Rattle.ice_search_log.proofs.laws.tree_logs_pass.Goals as goal

pub returns : goal.returns
returns c = tree_log_passes
