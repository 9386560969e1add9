use Rattle.std.proofs.Common.{◌≡◌, length}
use Rattle.ice_bench.proofs.sets.calls_on.Given as goal

abbrev pub invariant-loop-node : goal.invariant-loop-node
invariant-loop-node l = length l.weights ≡ length l.tree

abbrev pub invariant-loop-i : goal.invariant-loop-i
invariant-loop-i l = length l.weights ≡ length l.tree
