use Rattle.ice_search_log.proofs.Enumerated.{best_is_there}
use Rattle.ice_search_log.proofs.laws.bests_are_there.Goals as goal

pub returns : goal.returns
returns c = best_is_there
