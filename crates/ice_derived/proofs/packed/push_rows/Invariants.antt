use Rattle.std.proofs.Common.{◌≡◌, ◌≤◌, ◌++◌, take}
use Rattle.std.specs.Prelude.{vec_capacity}
use Rattle.ice_derived.specs.Packing.{joined}
use Rattle.ice_derived.proofs.packed.push_rows.Given as goal

abbrev pub invariant-loop-bidder : goal.invariant-loop-bidder
invariant-loop-bidder l = record {
  items : l.numbers.items ≡ l.initial.numbers.items ++ joined (take l.bidder l.amounts);
  capacity : vec_capacity l.initial.numbers ≤ vec_capacity l.numbers;
}
