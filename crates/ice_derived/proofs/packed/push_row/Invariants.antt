use Rattle.std.proofs.Common.{◌≡◌, ◌≤◌, ◌++◌, take}
use Rattle.std.specs.Prelude.{vec_capacity}
use Rattle.ice_derived.proofs.packed.push_row.Given as goal

abbrev pub invariant-loop-node : goal.invariant-loop-node
invariant-loop-node l = record {
  items : l.numbers.items ≡ l.initial.numbers.items ++ take l.node l.row;
  capacity : vec_capacity l.initial.numbers ≤ vec_capacity l.numbers;
}
