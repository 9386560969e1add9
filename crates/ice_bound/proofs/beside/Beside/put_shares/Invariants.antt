use Rattle.std.proofs.Common.{ℕ, ◌≡◌, ◌*◌, ◌^◌, ◌<◌, length, pos, neg_ℤ, ◌≤ℤ◌}
use Rattle.ice_defs.specs.Sum.{sum_below}
use Rattle.ice_bound.specs.Beside.{net_beside, IsShare, share_of}
use Rattle.ice_bound.proofs.beside.Beside.put_shares.Given as goal

abbrev pub invariant-loop-bidder : goal.invariant-loop-bidder
invariant-loop-bidder l = record {
  count : length l.shares ≡ 40;
  each : (b : ℕ) → b < l.bidder → IsShare l.self b (share_of l.shares b);
  sum : sum_below (net_beside l.self) l.bidder ≡ l.total;
  low : neg_ℤ (pos (l.bidder * (201 * 2 ^ 90))) ≤ℤ l.total;
  high : l.total ≤ℤ pos (l.bidder * (201 * 2 ^ 90));
}
