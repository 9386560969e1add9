-- Why nothing is said of the bytes of a journal.
use Rattle.std.specs.Prelude.{ℕ, List}
use Rattle.ice_journal.specs.Records.{Record}
use Rattle.ice_journal.specs.Journal.{grammar, unended, IsLinesFault}
use Rattle.ice_journal_laws.specs.declared.answer.CheckEnd.{CheckEnd}
use Rattle.ice_journal_laws.specs.declared.answer.CheckEnd.TheVariants.{Grammar, Unended, OtherKind, NoMemory}
use Rattle.ice_journal_laws.specs.Checks.{Failure}
use Rattle.ice_journal_laws.specs.Answers.{OfJournal}
use Rattle.ice_reading.specs.declared.end.JournalEnd.{JournalEnd}
use Rattle.ice_reading.specs.declared.end.JournalEnd.TheVariants.{Unjudged, FailsTest}

-- the least line at fault comes first, then that the journal is of another kind; want of memory is
-- free
abbrev pub AreUnjudged : (List Record → Type 0) → List ℕ → CheckEnd → Type 0
AreUnjudged IsOther bytes (Grammar line) = IsLinesFault bytes (grammar line)
AreUnjudged IsOther bytes (Unended line) = IsLinesFault bytes (unended line)
AreUnjudged IsOther bytes OtherKind = OfJournal bytes IsOther
AreUnjudged IsOther bytes NoMemory = Unit {0}

-- then comes the test that a journal fails
abbrev pub EndsBytes : (List Record → Type 0) → (List Record → Failure → Type 0) → List ℕ → JournalEnd → Type 0
EndsBytes IsOther Fails bytes (Unjudged end) = AreUnjudged IsOther bytes end
EndsBytes IsOther Fails bytes (FailsTest line rule) = OfJournal bytes (λ journal. Fails journal (record { line = line; rule = rule }))

-- memory ran out
abbrev pub in_want : JournalEnd
in_want = Unjudged NoMemory
