-- What is answered of the bytes of a journal: the last settlement of a closed session, or why there
-- is none.
use Rattle.std.specs.Prelude.{ℕ, ◌≡◌, List, Some, Result, Ok, Err}
use Rattle.ice_defs.specs.Session.{Session}
use Rattle.ice_headline_laws.specs.Right.{IsRight, final_bounds, payments_of}
use Rattle.ice_journal.specs.Records.{Record, session_kind}
use Rattle.ice_journal_laws.specs.Checks.{Failure, Checks, FirstFailure}
use Rattle.ice_journal_laws.specs.Answers.{OfJournal}
use Rattle.ice_journal_laws.specs.Theorems.{Says, HasKind}
use Rattle.ice_journal_laws.specs.Written.{session_records}
use Rattle.ice_fair.specs.Lasts.{LastTrade, last_at}
use Rattle.ice_reading.specs.declared.end.JournalEnd.{JournalEnd}
use Rattle.ice_reading.specs.Ends.{EndsBytes}

-- the journal is one of a session
abbrev pub IsSession : List Record → Type 0
IsSession journal = HasKind session_kind journal

-- the last settlement of a session, and the denominator of its cut
abbrev pub last_settlement : Session → LastTrade
last_settlement x = last_at x.exchange (final_bounds x) x.closed.settlement.final.sets (payments_of x.closed) x.closed.cut.den

-- a session journal passes every test, and this is the last settlement of a right session that it
-- says
pub record IsLastOf (last : LastTrade) (journal : List Record) : Type 0 where
  pub session : IsSession journal
  pub checks : Checks journal
  pub stated : Session
  pub says : Says journal (session_records stated)
  pub right : IsRight stated
  pub is : last ≡ last_settlement stated

-- a session fails this test first
abbrev pub FailsFirst : List Record → Failure → Type 0
FailsFirst journal failure = IsSession journal × FirstFailure journal (Some failure)

abbrev pub LastsBytes : List ℕ → Result LastTrade JournalEnd → Type 0
LastsBytes bytes (Ok last) = OfJournal bytes (IsLastOf last)
LastsBytes bytes (Err end) = EndsBytes (λ journal. ¬ IsSession journal) FailsFirst bytes end
