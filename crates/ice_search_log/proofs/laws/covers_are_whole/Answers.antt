use Rattle.ice_search_log.proofs.Covering.{cover_is_whole}
use Rattle.ice_search_log.proofs.laws.covers_are_whole.Goals as goal

pub returns : goal.returns
returns c = cover_is_whole
