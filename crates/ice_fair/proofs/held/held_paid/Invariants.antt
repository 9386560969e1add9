use Rattle.std.proofs.Common.{◌≡◌, ◌*◌, ◌^◌, pos, neg_ℤ, ◌≤ℤ◌, ◌*ℤ◌}
use Rattle.ice_defs.specs.Sum.{sum_below}
use Rattle.ice_fair.specs.Trades.{num_at, held_by}
use Rattle.ice_fair.proofs.held.held_paid.Given as goal

abbrev pub invariant-loop-bidder : goal.invariant-loop-bidder
invariant-loop-bidder l = record {
  sum : l.sum ≡ sum_below (λ b. held_by l.low l.high b *ℤ num_at l.nums b) l.bidder;
  low : neg_ℤ (pos (l.bidder * (2 ^ 24 * 10 ^ 21))) ≤ℤ l.sum;
  high : l.sum ≤ℤ pos (l.bidder * (2 ^ 24 * 10 ^ 21));
}
