use Rattle.std.proofs.Common.{◌≡◌, ◌<◌, ◌≤◌, ℕ, length, ◌-ℤ◌}
use Rattle.ice_defs.specs.Set.{weight_of, IsSmall}
use Rattle.ice_derived.proofs.nets.charge.Given as goal

abbrev pub invariant-loop-node : goal.invariant-loop-node
invariant-loop-node l = record {
  nodes : length l.nets ≡ l.nodes;
  done : (n : ℕ) → n < l.node → weight_of l.nets n ≡ weight_of l.initial.nets n -ℤ weight_of l.charges n;
  small : (n : ℕ) → n < l.node → IsSmall (weight_of l.nets n);
  left : (n : ℕ) → l.node ≤ n → weight_of l.nets n ≡ weight_of l.initial.nets n;
}
