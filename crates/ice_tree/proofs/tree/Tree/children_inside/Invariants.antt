use Rattle.std.proofs.Common.{◌≡◌, ◌≤◌, take}
use Rattle.std.specs.Prelude.{count_by}
use Rattle.ice_defs.specs.Set.{has}
use Rattle.ice_tree.proofs.tree.Tree.children_inside.Given as goal

abbrev pub invariant-loop-child : goal.invariant-loop-child
invariant-loop-child l = record {
  count_is : l.count ≡ count_by (has l.set) (take l.child-index l.child-items);
  few : l.count ≤ l.child-index;
}
