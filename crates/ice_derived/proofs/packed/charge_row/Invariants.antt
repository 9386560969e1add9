use Rattle.std.proofs.Common.{◌≡◌, ◌<◌, ◌≤◌, ℕ, length, ◌+ℤ◌, ◌*ℤ◌}
use Rattle.ice_defs.specs.Set.{weight_of}
use Rattle.ice_derived.proofs.packed.charge_row.Given as goal

abbrev pub invariant-loop-node : goal.invariant-loop-node
invariant-loop-node l = record {
  nodes : length l.row ≡ l.nodes;
  done : (n : ℕ) → n < l.node → weight_of l.row n ≡ weight_of l.initial.row n +ℤ (l.times *ℤ weight_of l.amounts n);
  left : (n : ℕ) → l.node ≤ n → weight_of l.row n ≡ weight_of l.initial.row n;
}
