use Rattle.std.proofs.Common.{◌≡◌, ◌≤◌, take}
use Rattle.ice_defs.specs.Set.{has}
use Rattle.ice_best.specs.Choice.{picked_count}
use Rattle.ice_best.proofs.choice.count_possible.Given as goal

abbrev pub invariant-loop-child : goal.invariant-loop-child
invariant-loop-child l = record {
  few : l.count ≤ l.child-index;
  count_is : l.count ≡ picked_count (has l.possible) (take l.child-index l.children);
}
