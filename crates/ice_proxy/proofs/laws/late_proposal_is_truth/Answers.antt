use Rattle.ice_proxy.proofs.Proposals.{late_proposal_is_truth}
use Rattle.ice_proxy.proofs.laws.late_proposal_is_truth.Goals as goal

pub returns : goal.returns
returns c = late_proposal_is_truth
