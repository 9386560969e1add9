use Rattle.std.proofs.Common.{◌<◌, ◌≤◌, ◌-◌, ◌≡◌, true, length}
use Rattle.ice_defs.specs.Tree.{kind_of}
use Rattle.ice_bound.specs.Kept.{Stands}
use Rattle.ice_bound.specs.Leaves.{is_leaf_of}
use Rattle.ice_bound.proofs.found.stands.Given as goal

abbrev pub invariant-loop-leaf : goal.invariant-loop-leaf
invariant-loop-leaf l = record {
  stands : Stands l.tree l.set l.good l.direction l.leaf;
  inside : l.leaf ≤ length l.tree;
  is_leaf : l.leaf < length l.tree → is_leaf_of (kind_of l.tree l.leaf) l.good ≡ true;
}

abbrev pub decreases-loop-leaf : goal.decreases-loop-leaf
decreases-loop-leaf l = length l.tree - l.leaf
