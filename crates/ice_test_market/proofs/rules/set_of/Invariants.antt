use Rattle.std.proofs.Common.{◌≡◌, length}
use Rattle.ice_test_market.proofs.rules.set_of.Given as goal

abbrev pub invariant-loop-node : goal.invariant-loop-node
invariant-loop-node l = length l.set ≡ l.nodes
