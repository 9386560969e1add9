use Rattle.ice_search_log.proofs.Stepping.{search_begins}
use Rattle.ice_search_log.proofs.laws.searches_begin.Goals as goal

pub returns : goal.returns
returns c = search_begins
