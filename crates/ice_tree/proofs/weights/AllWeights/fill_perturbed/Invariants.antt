use Rattle.std.proofs.Common.{◌≡◌, ◌<◌, ℕ, length}
use Rattle.ice_defs.specs.Trade.{weights_of, set_of}
use Rattle.ice_defs.specs.Bounds.{bounds_of}
use Rattle.ice_defs.specs.Weighing.{perturbed_list}
use Rattle.ice_tree.proofs.weights.AllWeights.fill_perturbed.Given as goal

abbrev pub invariant-loop-bidder : goal.invariant-loop-bidder
invariant-loop-bidder l = record {
  count : length l.self-inside.weights.items ≡ length l.bounds;
  filled : (b : ℕ) → b < l.bidder → weights_of l.self-inside.weights.items b ≡ perturbed_list (set_of l.chosen b) (bounds_of l.bounds b).lo (bounds_of l.bounds b).hi;
  alike : (b : ℕ) → b < length l.bounds → length (weights_of l.self-inside.weights.items b) ≡ length (bounds_of l.bounds b).lo;
}
