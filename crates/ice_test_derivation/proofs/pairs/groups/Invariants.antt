use Rattle.std.proofs.Common.{◌≡◌}
use Rattle.ice_refute.specs.Waiting.{nodes_of}
use Rattle.ice_test_derivation.proofs.pairs.groups.Given as goal

abbrev pub invariant-loop-place : goal.invariant-loop-place
invariant-loop-place g l = l.derivations.walk.nodes ≡ nodes_of l.market.trees
