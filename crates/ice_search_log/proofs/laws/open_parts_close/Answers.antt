use Rattle.ice_search_log.proofs.Opening.{open_closes}
use Rattle.ice_search_log.proofs.laws.open_parts_close.Goals as goal

pub returns : goal.returns
returns c = open_closes
