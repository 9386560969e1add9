use Rattle.std.proofs.Common.{◌≡◌, ◌<◌, ℕ, length}
use Rattle.ice_defs.specs.Trade.{weights_of}
use Rattle.ice_defs.specs.Bounds.{bounds_of}
use Rattle.ice_tree.proofs.weights.AllWeights.fill_lower.Given as goal

abbrev pub invariant-loop-bidder : goal.invariant-loop-bidder
invariant-loop-bidder l = record {
  count : length l.self-inside.weights.items ≡ length l.bounds;
  filled : (b : ℕ) → b < l.bidder → weights_of l.self-inside.weights.items b ≡ (bounds_of l.bounds b).lo;
  alike : (b : ℕ) → b < length l.bounds → length (weights_of l.self-inside.weights.items b) ≡ length (bounds_of l.bounds b).lo;
}
