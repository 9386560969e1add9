use Rattle.std.proofs.Common.{◌≡◌, ◌<◌, ℕ, length, pos, neg_ℤ, ◌≤ℤ◌}
use Rattle.ice_defs.specs.Set.{weight_of, leaf_units}
use Rattle.ice_defs.specs.Tree.{kind_of}
use Rattle.ice_best.proofs.sale.sale_weights.Given as goal

abbrev pub invariant-loop-node : goal.invariant-loop-node
invariant-loop-node l = record {
  len : length l.weights ≡ length l.tree;
  each : (n : ℕ) → n < l.node → weight_of l.weights n ≡ neg_ℤ (leaf_units (kind_of l.tree n) l.good);
  low : (n : ℕ) → n < l.node → neg_ℤ (pos 65535) ≤ℤ weight_of l.weights n;
  high : (n : ℕ) → n < l.node → weight_of l.weights n ≤ℤ pos 65535;
}
