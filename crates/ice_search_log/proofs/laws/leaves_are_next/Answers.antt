use Rattle.ice_search_log.proofs.Marked.{leaf_is_next}
use Rattle.ice_search_log.proofs.laws.leaves_are_next.Goals as goal

pub returns : goal.returns
returns c = leaf_is_next
