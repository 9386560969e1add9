use Rattle.ice_rules.proofs.Exact.{exact_bid_is_accepted}
use Rattle.ice_rules.proofs.laws.exact_bids_are_accepted.Goals as goal

pub returns : goal.returns
returns c = exact_bid_is_accepted
