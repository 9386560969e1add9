-- Work that is added to work.
use Rattle.std.proofs.Common.{arith}
use Rattle.ice_turns.specs.declared.work.RunWork.{RunWork}
use Rattle.ice_turns.specs.Works.{IsMoreWork, HasTurns}

pub more-trans : (a b c : RunWork) → IsMoreWork a b → IsMoreWork b c → IsMoreWork a c
more-trans a b c p q = record { turns = omega (arith, p.turns, q.turns); pivots = omega (arith, p.pivots, q.pivots) }

pub two-turns : (a b c : RunWork) → HasTurns 1 a b → HasTurns 1 b c → HasTurns 2 a c
two-turns a b c p q = omega (arith, p, q)
