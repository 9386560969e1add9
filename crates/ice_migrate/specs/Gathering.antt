-- What a sink has taken of a text that is gathered before it is put.
use Rattle.std.specs.Prelude.{ℕ, List, Result, Ok, Err}
use Rattle.ice_edge.specs.declared.sink.SinkFault.{SinkFault}
use Rattle.ice_edge.specs.Puts.{FailsIn, TakesAllBut}
use Rattle.ice_edge.specs.Taken.{Taken}

-- the sink took all of the whole text but this rest, which is gathered, or failed in it
abbrev pub IsGathered : List ℕ → List ℕ → Result (Unit {0}) SinkFault → Taken → Taken → Type 0
IsGathered rest whole (Ok done) old new = TakesAllBut rest whole old new
IsGathered rest whole (Err fault) old new = FailsIn whole old new
