use Rattle.ice_search_log.proofs.Marked.{meets_start}
use Rattle.ice_search_log.proofs.laws.parts_meet_starts.Goals as goal

pub returns : goal.returns
returns c = meets_start
