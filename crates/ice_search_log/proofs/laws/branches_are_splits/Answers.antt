use Rattle.ice_search_log.proofs.Counted.{branches_are_splits}
use Rattle.ice_search_log.proofs.laws.branches_are_splits.Goals as goal

pub returns : goal.returns
returns c = branches_are_splits
