use Rattle.ice_search_log.proofs.Ending.{closed_is_low}
use Rattle.ice_search_log.proofs.laws.closed_are_low.Goals as goal

pub returns : goal.returns
returns c = closed_is_low
