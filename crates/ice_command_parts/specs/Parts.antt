-- Parts of a call, and what a command makes of them: the form of every command's clause.
use Rattle.std.specs.Prelude.{◌≡◌, ◌⊎◌, ℕ, List}
use Rattle.ice_edge.specs.declared.status.Status.{Status}
use Rattle.ice_edge.specs.declared.status.Status.TheVariants.{WriteFault}
use Rattle.ice_edge.specs.Edge.{Rose, Appends, AppendsFront}
use Rattle.ice_edge.specs.Told.{Told, IsLater}
use Rattle.ice_edge.specs.Taken.{Taken}
use Rattle.ice_command_parts.specs.Call.{Call, OfTold}

-- the call began before this part of it, and ends after it
pub record HasPart (call : Call) (before after : Told) : Type 0 where
  pub begins : IsLater call.before before
  pub ends : IsLater after call.after

-- these are bytes within the limit, and those under the name where it is told what lies there
abbrev pub AreFetched : Told → List ℕ → ℕ → List ℕ → Type 0
AreFetched shelf name limit bytes = OfTold limit (λ told. told ≡ bytes) (shelf.holds name)

-- this text with this status answers every call that has this part
abbrev pub Answers : (Call → Status → Type 0) → Told → Told → List ℕ → Status → Type 0
Answers IsAnswer before after text status = (call : Call) → HasPart call before after → call.text ≡ text → IsAnswer call status

-- what was written, and how it ended: the whole text with its
-- status, or a front of it where the sink's count of faults rose
abbrev pub IsSaid : List ℕ → Status → Taken → Taken → Status → Type 0
IsSaid text status old new result =
    ((result ≡ status) × Appends old.written text new.written)
    ⊎ ((result ≡ WriteFault) × Rose old.faults new.faults × AppendsFront old.written text new.written)

-- a command has an answer, and says it
abbrev pub Serves : (Call → Status → Type 0) → Told → Told → Taken → Taken → Status → Type 0
Serves IsAnswer before after old new result =
    (text : List ℕ) × (status : Status) × Answers IsAnswer before after text status × IsSaid text status old new result
