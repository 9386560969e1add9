use Rattle.std.proofs.Common.{◌≡◌, ◌*◌, ◌^◌, pos, ◌≤ℤ◌, slice_index_or}
use Rattle.ice_defs.specs.Sum.{sum_below}
use Rattle.ice_fair.proofs.held.total.Given as goal

abbrev pub invariant-loop-bidder : goal.invariant-loop-bidder
invariant-loop-bidder l = record {
  sum : l.sum ≡ sum_below (λ b. pos (slice_index_or l.numbers b 0)) l.bidder;
  low : pos 0 ≤ℤ l.sum;
  high : l.sum ≤ℤ pos (l.bidder * 2 ^ 24);
}
