use Rattle.ice_search_log.proofs.Stepping.{search_splits}
use Rattle.ice_search_log.proofs.laws.searches_split.Goals as goal

pub returns : goal.returns
returns c = search_splits
