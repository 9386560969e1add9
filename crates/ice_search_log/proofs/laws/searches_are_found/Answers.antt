use Rattle.ice_search_log.proofs.Ending.{search_is_found}
use Rattle.ice_search_log.proofs.laws.searches_are_found.Goals as goal

pub returns : goal.returns
returns c = search_is_found
