-- Two pieces that are put one behind the other: the first one fails.
use Rattle.std.proofs.Common.{◌≡◌, ℕ, List, ◌++◌, Result, Err, subst, sym}
use Rattle.ice_edge.specs.declared.sink.SinkFault.{SinkFault}
use Rattle.ice_edge.specs.Puts.{FailsIn, IsPut}
use Rattle.ice_edge.specs.Taken.{Taken}
use Rattle.ice_edge.proofs.Puts.{first_fails}

pub fails_first : {old new : Taken} (piece rest : List ℕ) (put : Result (Unit {0}) SinkFault) (fault : SinkFault) → put ≡ Err fault → FailsIn piece old new → IsPut (piece ++ rest) put old new
fails_first {old = old} {new = new} piece rest put fault is fails = subst (λ r. IsPut (piece ++ rest) r old new) (sym is) (first_fails piece rest fails)
