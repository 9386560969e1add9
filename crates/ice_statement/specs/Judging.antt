-- Which bidders have a statement of the bytes of a journal, and why there is none.
use Rattle.std.specs.Prelude.{ℕ, ◌≡◌, Bool, true, false, if◌then◌else◌, List, [], ◌∷◌, Option, Some, None, Result, Ok, Err}
use Rattle.std.specs.Str.{bytes_eq}
use Rattle.ice_journal.specs.Records.{Record, session_kind}
use Rattle.ice_journal.specs.Records as line
use Rattle.ice_journal_laws.specs.Checks.{Failure, Checks}
use Rattle.ice_journal_laws.specs.Answers.{OfJournal, HasNo}
use Rattle.ice_reading.specs.declared.end.JournalEnd.TheVariants.{Unjudged, FailsTest}
use Rattle.ice_reading.specs.Ends.{EndsBytes}
use Rattle.ice_statement_laws.specs.Statement.{Own}
use Rattle.ice_statement_laws.specs.Texts.{IsOwnOf}
use Rattle.ice_statement.specs.declared.judging.StatementEnd.{StatementEnd}
use Rattle.ice_statement.specs.declared.judging.StatementEnd.TheVariants.{Journal, NoBidder}

abbrev pub is_session : List Record → Bool
is_session (line.head version session_kind ∷ rest) = true
is_session other = false

-- where the search for a bidder with this name ends, and whether it came
abbrev pub end_at : List ℕ → Record → Option Bool
end_at name (line.bidder other own) = if bytes_eq name other then Some true else None
end_at name (line.settle number) = Some false
end_at name other = None

abbrev pub answer_or : Option Bool → Bool → Bool
answer_or (Some found) later = found
answer_or None later = later

-- before the first settlement there is a bidder with this name
abbrev pub has_bidder : List ℕ → List Record → Bool
has_bidder name [] = false
has_bidder name (r ∷ rest) = answer_or (end_at name r) (has_bidder name rest)

-- a closed session journal that passes every test, and what of it is the bidder's own
pub record HasStatement (name : List ℕ) (journal : List Record) : Type 0 where
  pub checks : Checks journal
  pub own : Own
  pub is : IsOwnOf journal name own

-- a closed session journal that passes every test, and nothing of it is the bidder's own
pub record HasNoBidder (name : List ℕ) (journal : List Record) : Type 0 where
  pub session : is_session journal ≡ true
  pub checks : Checks journal
  pub none : (own : Own) → ¬ IsOwnOf journal name own

pub record IsFailing (journal : List Record) (failure : Failure) : Type 0 where
  pub session : is_session journal ≡ true
  pub fails : HasNo journal failure

-- the failed test of a session comes before the want of the bidder
abbrev pub MayState : List ℕ → List ℕ → Result (Unit {0}) StatementEnd → Type 0
MayState bytes name (Ok unit) = OfJournal bytes (HasStatement name)
MayState bytes name (Err (Journal end)) = EndsBytes (λ journal. is_session journal ≡ false) IsFailing bytes end
MayState bytes name (Err NoBidder) = OfJournal bytes (HasNoBidder name)

-- what is found of a session journal by the checker's answer
abbrev pub Finds : List ℕ → List Record → Result (Unit {0}) StatementEnd → Type 0
Finds name journal (Ok unit) = HasStatement name journal
Finds name journal (Err (Journal (FailsTest place test))) = IsFailing journal (record { line = place; rule = test })
Finds name journal (Err (Journal (Unjudged end))) = ⊥
Finds name journal (Err NoBidder) = HasNoBidder name journal
