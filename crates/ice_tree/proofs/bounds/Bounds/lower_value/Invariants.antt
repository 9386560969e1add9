use Rattle.std.proofs.Common.{◌≡◌, ◌*◌, cond, pos, neg_ℤ, ◌≤ℤ◌}
use Rattle.ice_defs.specs.Sum.{sum_below}
use Rattle.ice_defs.specs.Set.{has, weight_of}
use Rattle.ice_tree.proofs.bounds.Bounds.lower_value.Given as goal

abbrev pub invariant-loop-node : goal.invariant-loop-node
invariant-loop-node l = record {
  sum : l.sum ≡ sum_below (λ n. cond (has l.set n) (weight_of l.self.lo n) (pos 0)) l.node;
  low : neg_ℤ (pos (1000000000 * l.node)) ≤ℤ l.sum;
  high : l.sum ≤ℤ pos (1000000000 * l.node);
}
