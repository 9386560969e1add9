use Rattle.std.proofs.Common.{◌≡◌}
use Rattle.ice_refute.specs.Waiting.{nodes_of}
use Rattle.ice_test_bound.proofs.pairs.leaves.Given as goal

abbrev pub invariant-loop-toll : goal.invariant-loop-toll
invariant-loop-toll g l = l.derived.nodes ≡ nodes_of l.market.trees
