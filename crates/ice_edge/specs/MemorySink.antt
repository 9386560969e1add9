-- A sink in memory: what it has taken, and what a put does.
use Rattle.std.specs.Prelude.{ℕ, ◌==◌, ◌-◌, min, nat_lt, Bool, false, ◌||◌, List, [], ◌++◌, length, take, Option, Some, None, if◌then◌else◌}
use Rattle.ice_edge.specs.Edge.{one_more}
use Rattle.ice_edge.specs.Taken.{Taken}
use Rattle.ice_edge.specs.declared.memory_sink.PlannedFault.{PlannedFault}

-- the bytes it has taken, how many it has room for, the put that is to fail, how many puts there
-- were, and the count of its faults
pub record SinkState : Type 0 where
  pub bytes : List ℕ
  pub room : ℕ
  pub planned : Option PlannedFault
  pub calls : ℕ
  pub faults : ℕ

-- it tells of all that it has taken
abbrev pub told_of : SinkState → Taken
told_of sink = record { written = Some sink.bytes; faults = sink.faults }

abbrev pub empty_sink : ℕ → SinkState
empty_sink room = record { bytes = []; room = room; planned = None; calls = 0; faults = 0 }

-- this put is to fail, in place of the one that was
abbrev pub with_planned : SinkState → ℕ → ℕ → SinkState
with_planned sink call taken = record sink { planned = Some (record { call = call; taken = taken }) }

-- the put with this number is to fail, whatever it takes
abbrev pub is_due : Option PlannedFault → ℕ → Bool
is_due None call = false
is_due (Some fault) call = fault.call == call

-- how many of so many bytes the put with this number takes, where there is so much room
abbrev pub taken_of : Option PlannedFault → ℕ → ℕ → ℕ → ℕ
taken_of None call piece room = min piece room
taken_of (Some fault) call piece room = if fault.call == call then min fault.taken (min piece room) else min piece room

-- how many bytes of a piece the next put takes
abbrev pub next_taken : SinkState → ℕ → ℕ
next_taken sink piece = taken_of sink.planned (one_more sink.calls) piece (sink.room - length sink.bytes)

-- the next put is the one that is to fail, or the piece doesn't fit
abbrev pub is_next_failing : SinkState → ℕ → Bool
is_next_failing sink piece = is_due sink.planned (one_more sink.calls) || nat_lt (next_taken sink piece) piece

-- the sink after a put: it has the front of the piece that fits, and its number and its fault count
abbrev pub after_put : SinkState → List ℕ → SinkState
after_put sink piece = record sink {
  bytes = sink.bytes ++ take (next_taken sink (length piece)) piece;
  calls = one_more sink.calls;
  faults = if is_next_failing sink (length piece) then one_more sink.faults else sink.faults;
}
