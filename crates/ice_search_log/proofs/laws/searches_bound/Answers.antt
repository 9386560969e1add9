use Rattle.ice_search_log.proofs.Stepping.{search_bounds}
use Rattle.ice_search_log.proofs.laws.searches_bound.Goals as goal

pub returns : goal.returns
returns c = search_bounds
