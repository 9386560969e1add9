use Rattle.ice_search_log.proofs.Ending.{none_is_left}
use Rattle.ice_search_log.proofs.laws.none_are_left.Goals as goal

pub returns : goal.returns
returns c = none_is_left
