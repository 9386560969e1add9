use Rattle.ice_search_log.proofs.Covering.{split_covers}
use Rattle.ice_search_log.proofs.laws.splits_cover.Goals as goal

pub returns : goal.returns
returns c = split_covers
