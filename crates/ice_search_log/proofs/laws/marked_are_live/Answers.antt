use Rattle.ice_search_log.proofs.Marked.{marked_is_live}
use Rattle.ice_search_log.proofs.laws.marked_are_live.Goals as goal

pub returns : goal.returns
returns c = marked_is_live
