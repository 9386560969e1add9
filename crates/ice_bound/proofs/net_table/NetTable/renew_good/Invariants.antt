use Rattle.std.proofs.Common.{◌<◌, ◌≤◌, ◌-◌, ◌≡◌, true, length}
use Rattle.ice_defs.specs.Tree.{kind_of}
use Rattle.ice_defs.specs.Bound.{Multipliers}
use Rattle.ice_bound.specs.Leaves.{is_leaf_of}
use Rattle.ice_bound.specs.Tables.{IsNetTable, DifferOnlyIn}
use Rattle.ice_bound.proofs.Tables.{IsMoving}
use Rattle.ice_bound.proofs.net_table.NetTable.renew_good.Given as goal

abbrev pub invariant-loop-leaf : goal.invariant-loop-leaf
invariant-loop-leaf l = record {
  moving : (before : Multipliers) → IsNetTable l.marked.tree.now l.marked.weights.now before l.marked.fixing.now l.initial.self → DifferOnlyIn l.good before l.m
      → IsMoving l.marked.tree.now l.marked.weights.now before l.m l.marked.fixing.now l.self l.leaf;
  inside : l.leaf ≤ length l.marked.tree.now;
  is_leaf : l.leaf < length l.marked.tree.now → is_leaf_of (kind_of l.marked.tree.now l.leaf) l.good ≡ true;
}

abbrev pub decreases-loop-leaf : goal.decreases-loop-leaf
decreases-loop-leaf l = length l.marked.tree.now - l.leaf
