use Rattle.ice_search_log.proofs.Marked.{children_are_later}
use Rattle.ice_search_log.proofs.laws.children_are_later.Goals as goal

pub returns : goal.returns
returns c = children_are_later
