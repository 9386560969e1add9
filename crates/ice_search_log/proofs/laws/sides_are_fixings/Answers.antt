use Rattle.ice_search_log.proofs.Marked.{sides_are_fixings}
use Rattle.ice_search_log.proofs.laws.sides_are_fixings.Goals as goal

pub returns : goal.returns
returns c = sides_are_fixings
