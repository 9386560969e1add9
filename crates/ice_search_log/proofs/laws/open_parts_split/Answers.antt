use Rattle.ice_search_log.proofs.Opening.{open_splits}
use Rattle.ice_search_log.proofs.laws.open_parts_split.Goals as goal

pub returns : goal.returns
returns c = open_splits
