-- A law of what is judged.
use Rattle.std.specs.Prelude.{ℕ, ◌≡◌, ◌≢◌, List, Result, Err}
use Rattle.ice_reading.specs.declared.end.JournalEnd.{JournalEnd}
use Rattle.ice_reading.specs.Ends.{in_want}
use Rattle.ice_migrate.specs.Migrating.{Judges}

-- but for want of memory, bytes are judged in one way
abbrev pub OneJudgement : Type 0
OneJudgement =
    (bytes : List ℕ) (one other : Result (Unit {0}) JournalEnd) → Judges bytes one → Judges bytes other
    → one ≢ Err in_want → other ≢ Err in_want → one ≡ other
