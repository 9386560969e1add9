use Rattle.std.proofs.Common.{◌≡◌, ◌*◌, ◌^◌, pos, neg_ℤ, ◌≤ℤ◌}
use Rattle.ice_defs.specs.Sum.{sum_below}
use Rattle.ice_defs.specs.Set.{value}
use Rattle.ice_defs.specs.Trade.{set_of, weights_of}
use Rattle.ice_tree.proofs.assignment.Assignment.value.Given as goal

abbrev pub invariant-loop-bidder : goal.invariant-loop-bidder
invariant-loop-bidder l = record {
  total : l.total ≡ sum_below (λ b. value (set_of l.self b) (weights_of l.weights b)) l.bidder;
  low : neg_ℤ (pos (200 * 2 ^ 94 * l.bidder)) ≤ℤ l.total;
  high : l.total ≤ℤ pos (200 * 2 ^ 94 * l.bidder);
}
