use Rattle.ice_search_log.proofs.Marked.{branch_is_next}
use Rattle.ice_search_log.proofs.laws.branches_are_next.Goals as goal

pub returns : goal.returns
returns c = branch_is_next
