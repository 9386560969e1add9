use Rattle.ice_proxy.proofs.Proposals.{first_proposal_is_old}
use Rattle.ice_proxy.proofs.laws.first_proposal_is_old.Goals as goal

pub returns : goal.returns
returns c = first_proposal_is_old
