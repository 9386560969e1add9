use Rattle.ice_search_log.proofs.Covering.{best_is_below}
use Rattle.ice_search_log.proofs.laws.bests_are_below.Goals as goal

pub returns : goal.returns
returns c = best_is_below
