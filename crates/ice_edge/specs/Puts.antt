-- What a sink has taken of a text that is put piece by piece.
use Rattle.std.specs.Prelude.{ℕ, ◌≤◌, ◌≡◌, List, ◌++◌, Result, Ok, Err}
use Rattle.ice_edge.specs.declared.sink.SinkFault.{SinkFault}
use Rattle.ice_edge.specs.Edge.{Rose, Appends, AppendsFront}
use Rattle.ice_edge.specs.Taken.{Taken}

-- it took the whole text, and its count of faults stayed the same
pub record Takes (text : List ℕ) (old new : Taken) : Type 0 where
  pub appends : Appends old.written text new.written
  pub kept : new.faults ≡ old.faults

-- it failed, and took a front of the text
pub record FailsIn (text : List ℕ) (old new : Taken) : Type 0 where
  pub front : AppendsFront old.written text new.written
  pub rose : Rose old.faults new.faults
  pub later : old.faults ≤ new.faults

-- the text is put: the sink took the whole of it, or failed in it
abbrev pub IsPut : List ℕ → Result (Unit {0}) SinkFault → Taken → Taken → Type 0
IsPut text (Ok done) old new = Takes text old new
IsPut text (Err fault) old new = FailsIn text old new

-- it took all of the whole text but this rest
pub record TakesAllBut (rest whole : List ℕ) (old new : Taken) : Type 0 where
  pub front : List ℕ
  pub takes : Takes front old new
  pub split : whole ≡ front ++ rest
