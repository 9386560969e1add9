use Rattle.ice_search_log.proofs.Ending.{greatest_is_next}
use Rattle.ice_search_log.proofs.laws.greatest_are_next.Goals as goal

pub returns : goal.returns
returns c = greatest_is_next
