use Rattle.ice_search_log.proofs.Marked.{meets_less}
use Rattle.ice_search_log.proofs.laws.marks_are_met.Goals as goal

pub returns : goal.returns
returns c = meets_less
