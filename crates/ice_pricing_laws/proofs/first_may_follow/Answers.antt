use Rattle.ice_pricing_laws.proofs.Scans.{first_may_follow}
use Rattle.ice_pricing_laws.proofs.first_may_follow.Goals as goal

pub returns : goal.returns
returns c = first_may_follow
