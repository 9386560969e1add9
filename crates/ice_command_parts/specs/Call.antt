-- A call of the program: its words, what the outside told, and what came of it.
use Rattle.std.specs.Prelude.{ℕ, ◌<◌, ◌≤◌, ◌≡◌, List, ◌++◌, length, codes, Option, Some, None}
use Rattle.ice_edge.specs.declared.status.Status.{Status}
use Rattle.ice_edge.specs.Edge.{Rose}
use Rattle.ice_edge.specs.Told.{Told}
use Rattle.ice_defs.specs.FileFault.{FileFault}

-- its words; what the shelf told before and after it, and the sink's
-- count of faults then; and the text that it appended to the sink
pub record Call : Type 0 where
  pub words : List (List ℕ)
  pub before : Told
  pub after : Told
  pub sink_faults : ℕ
  pub sink_faults_after : ℕ
  pub text : List ℕ
  pub status : Status

abbrev pub IsTold : Call → List ℕ → List ℕ → Type 0
IsTold call name bytes = call.before.holds name ≡ Some (Some bytes)

-- the shelf's count of faults for this name rose in the call
abbrev pub FaultRose : Call → List ℕ → Type 0
FaultRose call name = Rose (call.before.faults name) (call.after.faults name)

abbrev pub OverlongRose : Call → List ℕ → ℕ → Type 0
OverlongRose call name limit = Rose (call.before.overlong name limit) (call.after.overlong name limit)

abbrev pub SinkFaultRose : Call → Type 0
SinkFaultRose call = Rose call.sink_faults call.sink_faults_after

-- the most bytes of an exchange or prices file, and of a journal
abbrev pub file_limit : ℕ
file_limit = 16777216

abbrev pub journal_limit : ℕ
journal_limit = 134217728

-- what is told is a file, its bytes are within the limit, and this holds of them
abbrev pub OfTold : ℕ → (List ℕ → Type 0) → Option (Option (List ℕ)) → Type 0
OfTold limit P None = Unit {0}
OfTold limit P (Some None) = ⊥
OfTold limit P (Some (Some bytes)) = (length bytes ≤ limit) × P bytes

abbrev pub OfFile : Call → List ℕ → ℕ → (List ℕ → Type 0) → Type 0
OfFile call name limit P = OfTold limit P (call.before.holds name)

-- a file has more bytes than it may have
abbrev pub overlong_file : FileFault
overlong_file = record { number = 61; place = codes "-" }

-- a file is refused: it is too long, and the count of that rose; or
-- its bytes, which are those that are told, have this fault
pub data IsRefused (call : Call) (name : List ℕ) (limit : ℕ) (HasFault : List ℕ → FileFault → Type 0) : FileFault → Type 0 where
  too_long : OverlongRose call name limit → ((bytes : List ℕ) → IsTold call name bytes → limit < length bytes)
      → IsRefused call name limit HasFault overlong_file
  at_fault : {fault : FileFault} (bytes : List ℕ) → HasFault bytes fault → OfFile call name limit (λ told. told ≡ bytes)
      → IsRefused call name limit HasFault fault

abbrev pub IsPrefix : {X : Type 0} → List X → List X → Type 0
IsPrefix {X} xs ys = (rest : List X) × (ys ≡ xs ++ rest)
