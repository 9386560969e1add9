use Rattle.ice_search_log.proofs.Swept.{swept_is_part}
use Rattle.ice_search_log.proofs.laws.swept_are_parts.Goals as goal

pub returns : goal.returns
returns c = swept_is_part
