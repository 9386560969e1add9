use Rattle.ice_fair_laws.proofs.Turns.{first_may_follow_fair}
use Rattle.ice_fair_laws.proofs.first_may_follow_fair.Goals as goal

pub returns : goal.returns
returns c = first_may_follow_fair
