use Rattle.ice_bound.specs.Leaves.{AreLeaves}
use Rattle.ice_bound.proofs.leaves.all_leaves.Given as goal

abbrev pub invariant-loop-tree : goal.invariant-loop-tree
invariant-loop-tree l = AreLeaves l.trees l.leaves.items l.tree-index
