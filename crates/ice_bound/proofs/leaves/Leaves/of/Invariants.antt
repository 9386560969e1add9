use Rattle.ice_bound.proofs.NextLeaves.{AreLeavesFrom}
use Rattle.ice_bound.proofs.leaves.Leaves.of.Given as goal

abbrev pub invariant-loop-node : goal.invariant-loop-node
invariant-loop-node l = AreLeavesFrom l.tree l.leaves l.node
