use Rattle.ice_search_log.proofs.Opening.{open_rises}
use Rattle.ice_search_log.proofs.laws.open_parts_rise.Goals as goal

pub returns : goal.returns
returns c = open_rises
