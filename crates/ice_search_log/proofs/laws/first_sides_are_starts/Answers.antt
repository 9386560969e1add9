use Rattle.ice_search_log.proofs.Marked.{side_is_start}
use Rattle.ice_search_log.proofs.laws.first_sides_are_starts.Goals as goal

pub returns : goal.returns
returns c = side_is_start
