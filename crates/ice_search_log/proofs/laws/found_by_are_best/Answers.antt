use Rattle.ice_search_log.proofs.Found.{found_by_is_best}
use Rattle.ice_search_log.proofs.laws.found_by_are_best.Goals as goal

pub returns : goal.returns
returns c = found_by_is_best
