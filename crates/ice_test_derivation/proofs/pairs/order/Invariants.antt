use Rattle.ice_derivation.specs.Derivations.{AreKept}
use Rattle.ice_test_derivation.proofs.pairs.order.Given as goal

abbrev pub invariant-loop-record : goal.invariant-loop-record
invariant-loop-record g l = AreKept l.market.trees l.derivations
