use Rattle.ice_search_log.proofs.Opening.{open_bounds}
use Rattle.ice_search_log.proofs.laws.open_parts_bound.Goals as goal

pub returns : goal.returns
returns c = open_bounds
