use Rattle.ice_search_log.proofs.Marked.{bound_is_live}
use Rattle.ice_search_log.proofs.laws.bounded_are_live.Goals as goal

pub returns : goal.returns
returns c = bound_is_live
