use Rattle.std.proofs.Common.{◌<◌, ◌≤◌, ◌-◌, ◌≡◌, ◌*◌, ℕ, true, cond, length, pos, neg_ℤ, ◌≤ℤ◌}
use Rattle.ice_defs.specs.Sum.{sum_below}
use Rattle.ice_defs.specs.Set.{has, leaf_units}
use Rattle.ice_defs.specs.Tree.{kind_of}
use Rattle.ice_bound.specs.Leaves.{is_leaf_of}
use Rattle.ice_bound.proofs.beside.units_of_set.Given as goal

abbrev pub invariant-loop-leaf : goal.invariant-loop-leaf
invariant-loop-leaf l = record {
  sum : sum_below (λ (n : ℕ). cond (has l.set n) (leaf_units (kind_of l.tree n) l.good) (pos 0)) l.leaf ≡ l.sum;
  low : neg_ℤ (pos (l.leaf * 65535)) ≤ℤ l.sum;
  high : l.sum ≤ℤ pos (l.leaf * 65535);
  inside : l.leaf ≤ length l.tree;
  is_leaf : l.leaf < length l.tree → is_leaf_of (kind_of l.tree l.leaf) l.good ≡ true;
}

abbrev pub decreases-loop-leaf : goal.decreases-loop-leaf
decreases-loop-leaf l = length l.tree - l.leaf
