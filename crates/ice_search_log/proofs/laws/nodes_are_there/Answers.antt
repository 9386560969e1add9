use Rattle.ice_search_log.proofs.Single.{node_is_there}
use Rattle.ice_search_log.proofs.laws.nodes_are_there.Goals as goal

pub returns : goal.returns
returns c = node_is_there
