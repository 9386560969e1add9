use Rattle.ice_search_log.proofs.Ending.{split_is_earned}
use Rattle.ice_search_log.proofs.laws.splits_are_earned.Goals as goal

pub returns : goal.returns
returns c = split_is_earned
