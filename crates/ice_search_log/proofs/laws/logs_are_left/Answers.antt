use Rattle.ice_search_log.proofs.Marked.{all_is_left}
use Rattle.ice_search_log.proofs.laws.logs_are_left.Goals as goal

pub returns : goal.returns
returns c = all_is_left
