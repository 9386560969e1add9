-- Why nothing is said of bytes, by what was found in them.
use Rattle.std.proofs.Common.{ℕ, List}
use Rattle.std.specs.Prelude.{Err}
use Rattle.ice_journal.specs.Records.{Record}
use Rattle.ice_journal_laws.specs.declared.answer.CheckEnd.{CheckEnd}
use Rattle.ice_journal_laws.specs.declared.answer.CheckEnd.TheVariants.{Grammar, Unended, OtherKind, NoMemory}
use Rattle.ice_journal_laws.specs.Checks.{IsChecked}
use Rattle.ice_journal_laws.specs.Answers.{AnswersBytes}
use Rattle.ice_reading.specs.Reading.{ReadsAll}
use Rattle.ice_reading.specs.Ends.{AreUnjudged}

-- they aren't read to their end; in what state a reader is then doesn't matter
pub read_unjudged : {S : Type 0} (Step : S → Record → S → Type 0) (IsOther : List Record → Type 0) (bytes : List ℕ) (s : S) (why : CheckEnd) → ReadsAll Step bytes s (Err why) s → AreUnjudged IsOther bytes why
read_unjudged Step IsOther bytes s (Grammar line) h = h
read_unjudged Step IsOther bytes s (Unended line) h = h
read_unjudged Step IsOther bytes s OtherKind h = absurd h
read_unjudged Step IsOther bytes s NoMemory h = tt

-- then they have no answer either
pub read_unanswered : {S : Type 0} (Step : S → Record → S → Type 0) (bytes : List ℕ) (s : S) (why : CheckEnd) → ReadsAll Step bytes s (Err why) s → AnswersBytes bytes (Err why)
read_unanswered Step bytes s (Grammar line) h = h
read_unanswered Step bytes s (Unended line) h = h
read_unanswered Step bytes s OtherKind h = absurd h
read_unanswered Step bytes s NoMemory h = tt

-- they have no answer
pub check_unjudged : (IsOther : List Record → Type 0) (bytes : List ℕ) (why : CheckEnd) → ((journal : List Record) → ¬ IsChecked journal → IsOther journal) → AnswersBytes bytes (Err why) → AreUnjudged IsOther bytes why
check_unjudged IsOther bytes (Grammar line) other h = h
check_unjudged IsOther bytes (Unended line) other h = h
check_unjudged IsOther bytes OtherKind other (journal, is, none) = (journal, is, other journal none)
check_unjudged IsOther bytes NoMemory other h = tt
