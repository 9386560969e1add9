use Rattle.std.proofs.Common.{ℕ, ◌<◌, List}
use Rattle.ice_proxy.specs.Proposals.{proposal, IsAcceptable}
use Rattle.ice_proxy.specs.Bidders.{bidder_at}
use Rattle.ice_proxy.proofs.bidding.proxy.Given as goal

abbrev pub invariant-loop-attempt : goal.invariant-loop-attempt
invariant-loop-attempt l =
    (name : List ℕ) (earlier : ℕ) → earlier < l.attempt → ¬ IsAcceptable l.at.prices.now l.fn.improve (bidder_at name l.at) (proposal l.at.bounds.now l.truth earlier)
