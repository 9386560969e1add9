use Rattle.std.proofs.Common.{◌≡◌, length}
use Rattle.ice_test_bound.proofs.best_sets.drawn_weights.Given as goal

abbrev pub invariant-loop-node : goal.invariant-loop-node
invariant-loop-node l = length l.weights ≡ l.nodes
