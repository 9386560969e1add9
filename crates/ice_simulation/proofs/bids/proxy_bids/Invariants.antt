use Rattle.std.proofs.Common.{◌≡◌, ◌<◌, ℕ, length, get_or}
use Rattle.ice_simulation.specs.TruthFile.{truth_lists}
use Rattle.ice_simulation.specs.Rounds.{IsProxyBidOf}
use Rattle.ice_simulation.proofs.Bidding.{no_bid}
use Rattle.ice_simulation.proofs.bids.proxy_bids.Given as goal

abbrev pub invariant-loop-bidder : goal.invariant-loop-bidder
invariant-loop-bidder l = record {
  count : length l.bids.items ≡ l.bidder;
  each : (k : ℕ) → k < l.bidder → IsProxyBidOf l.round (truth_lists l.round.exchange.bidders l.truths) k (get_or l.bids.items k no_bid);
}
