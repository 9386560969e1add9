use Rattle.ice_search_log.proofs.Marked.{side_is_below}
use Rattle.ice_search_log.proofs.laws.sides_are_below.Goals as goal

pub returns : goal.returns
returns c = side_is_below
