use Rattle.std.proofs.Common.{◌≡◌, ◌+◌, length}
use Rattle.ice_test_check.proofs.pieces.in_pieces.Given as goal

abbrev pub invariant-loop-rest : goal.invariant-loop-rest
invariant-loop-rest l = l.checker.count + length l.rest ≡ length l.bytes

abbrev pub decreases-loop-rest : goal.decreases-loop-rest
decreases-loop-rest l = length l.rest
