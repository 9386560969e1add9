use Rattle.std.proofs.Common.{◌≡◌, ◌≤◌, take}
use Rattle.ice_defs.specs.Set.{has, weight_of}
use Rattle.ice_best.specs.Choice.{picked_count, ChangesOnly, TakesGains}
use Rattle.ice_best.proofs.choice.take_gains.Given as goal

abbrev pub invariant-loop-child : goal.invariant-loop-child
invariant-loop-child l = record {
  few : l.count ≤ l.child-index;
  count_is : l.count ≡ picked_count (has l.taken) (take l.child-index l.children);
  gains : TakesGains (weight_of l.gain) (has l.possible) (has l.initial.taken) l.children l.child-index (has l.taken);
  same : ChangesOnly l.initial.taken l.taken l.children;
}
