use Rattle.ice_search_log.proofs.Marked.{open_sets_meet}
use Rattle.ice_search_log.proofs.laws.open_sets_meet.Goals as goal

pub returns : goal.returns
returns c = open_sets_meet
