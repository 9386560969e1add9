use Rattle.ice_search_log.proofs.Ending.{search_is_spent}
use Rattle.ice_search_log.proofs.laws.searches_are_spent.Goals as goal

pub returns : goal.returns
returns c = search_is_spent
