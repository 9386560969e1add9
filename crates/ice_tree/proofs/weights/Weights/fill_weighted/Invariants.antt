use Rattle.std.proofs.Common.{◌≡◌, ◌<◌, ℕ, length}
use Rattle.ice_defs.specs.Set.{weight_of}
use Rattle.ice_defs.specs.Weighing.{weighted_value}
use Rattle.ice_tree.proofs.weights.Weights.fill_weighted.Given as goal

abbrev pub invariant-loop-node : goal.invariant-loop-node
invariant-loop-node l = record {
  same : length l.self ≡ length l.bounds.lo;
  filled : (k : ℕ) → k < l.node → weight_of l.self k ≡ weighted_value l.weight (weight_of l.bounds.lo k) (weight_of l.bounds.hi k);
}
