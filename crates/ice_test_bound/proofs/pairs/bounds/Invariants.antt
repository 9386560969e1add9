use Rattle.std.proofs.Common.{◌≡◌}
use Rattle.ice_refute.specs.Waiting.{nodes_of}
use Rattle.ice_test_bound.proofs.pairs.bounds.Given as goal

abbrev pub invariant-loop-multiplier : goal.invariant-loop-multiplier
invariant-loop-multiplier g l = l.derived.nodes ≡ nodes_of l.market.trees
