use Rattle.std.proofs.Common.{◌≡◌, ◌<◌, ℕ, length}
use Rattle.ice_defs.specs.Set.{weight_of}
use Rattle.ice_best.specs.Nets.{node_net, IsNet}
use Rattle.ice_best.proofs.nets.fill_net_weights.Given as goal

abbrev pub invariant-loop-node : goal.invariant-loop-node
invariant-loop-node l = record {
  nodes : length l.out ≡ length l.tree;
  each : (n : ℕ) → n < l.node → weight_of l.out n ≡ node_net l.tree l.weights l.scale l.rates l.times n;
  small : (n : ℕ) → n < l.node → IsNet (weight_of l.out n);
}
