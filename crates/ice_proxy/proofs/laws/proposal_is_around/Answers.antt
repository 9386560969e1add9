use Rattle.ice_proxy.proofs.Proposals.{proposal_is_around}
use Rattle.ice_proxy.proofs.laws.proposal_is_around.Goals as goal

pub returns : goal.returns
returns c = proposal_is_around
