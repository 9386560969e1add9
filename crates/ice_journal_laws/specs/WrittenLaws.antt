-- What a writer's journals come to, as statements.
use Rattle.std.specs.Prelude.{◌≡◌, ◌≢◌, ◌⊎◌, List, [], ◌∷◌, ◌++◌}
use Rattle.std.specs.List.{AllByRecursion}
use Rattle.ice_defs.specs.Session.{Regretted, Session}
use Rattle.ice_journal.specs.Records.{Record, Version, version_2, Kind}
use Rattle.ice_journal.specs.Records as line
use Rattle.ice_journal.specs.Plain.{plain}
use Rattle.ice_journal.specs.Ranges.{IsRecord}
use Rattle.ice_journal_laws.specs.State.{done, State, begun}
use Rattle.ice_journal_laws.specs.Checks.{Checks}
use Rattle.ice_journal_laws.specs.Written.{regretted_records, session_records}
use Rattle.ice_journal_laws.specs.Carrying.{Carries}
use Rattle.ice_journal_laws.specs.Showing.{regretted_in, IsShownRegretted}
use Rattle.ice_journal_laws.specs.ShowingSession.{session_in, IsShownSession}
use Rattle.ice_journal_laws.specs.SoFar.{IsUnstopped, IsSoFar}

-- a regret journal of shown groups passes every test in either version, and version 2 says what
-- version 1 says
abbrev pub RegretIsWritten : Type 0
RegretIsWritten =
    (r : Regretted) → IsShownRegretted r
    → Checks (regretted_records r) × ((v : Version) → Checks (regretted_in v r)) × (plain (regretted_in version_2 r) ≡ regretted_records r)

-- a session of shown settlements passes every test in either version, and version 2 says what
-- version 1 says
abbrev pub SessionIsWritten : Type 0
SessionIsWritten =
    (s : Session) → IsShownSession s
    → Checks (session_records s) × ((v : Version) → Checks (session_in v s)) × (plain (session_in version_2 s) ≡ session_records s)

-- each front of records that lead on is a journal so far; no stop stands in the front, and it isn't
-- whole, where there are more records or they don't lead to the end
abbrev pub FrontIsSoFar : Type 0
FrontIsSoFar =
    (kind : Kind) (a b : List Record) (t : State) → Carries (begun version_2 kind) (a ++ b) t
    → AllByRecursion IsRecord (line.head version_2 kind ∷ a)
    → (so_far : IsSoFar kind (line.head version_2 kind ∷ a)) × ((b ≢ []) ⊎ (t.place ≢ done) → IsUnstopped so_far.end)

-- records that lead on are joined
abbrev pub CarriedAreJoined : Type 0
CarriedAreJoined = (s t u : State) (a b : List Record) → Carries s a t → Carries t b u → Carries s (a ++ b) u
