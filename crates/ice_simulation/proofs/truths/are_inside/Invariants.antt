use Rattle.std.proofs.Common.{◌<◌, ◌≤ℤ◌, ℕ}
use Rattle.ice_defs.specs.Set.{weight_of}
use Rattle.ice_simulation.proofs.truths.are_inside.Given as goal

abbrev pub invariant-loop-node : goal.invariant-loop-node
invariant-loop-node l = record {
  low : (k : ℕ) → k < l.node → weight_of l.bounds.lo k ≤ℤ weight_of l.values k;
  high : (k : ℕ) → k < l.node → weight_of l.values k ≤ℤ weight_of l.bounds.hi k;
}
