-- Which journals are brought to version 2, and why others are not.
use Rattle.std.specs.Prelude.{ℕ, ◌≡◌, ◌≢◌, ◌⊎◌, Bool, true, false, IsTrue, List, ◌∷◌, Some, None, Result, Ok, Err}
use Rattle.ice_journal.specs.Records.{Record, version_1, regret_kind, session_kind}
use Rattle.ice_journal.specs.Records as line
use Rattle.ice_journal.specs.Plain.{plain, in_version_2}
use Rattle.ice_journal_laws.specs.declared.rule.Rule.TheVariants as rule
use Rattle.ice_journal_laws.specs.Checks.{Failure, FirstFailure}
use Rattle.ice_journal_laws.specs.Answers.{OfJournal}
use Rattle.ice_migrate.specs.Order.{order_failure}
use Rattle.ice_reading.specs.declared.end.JournalEnd.{JournalEnd}
use Rattle.ice_reading.specs.Ends.{EndsBytes}

-- a version 1 journal of a kind that has a version 2
abbrev pub is_old : List Record → Bool
is_old (line.head version_1 regret_kind ∷ rest) = true
is_old (line.head version_1 session_kind ∷ rest) = true
is_old other = false

abbrev pub StopsAt : ℕ → List Record → Type 0
StopsAt place journal = FirstFailure journal (Some (record { line = place; rule = rule.Closed }))

-- no test fails but that of a stop
abbrev pub PassesOrStops : List Record → Type 0
PassesOrStops journal = FirstFailure journal None ⊎ ((place : ℕ) × StopsAt place journal)

-- a version 1 journal that passes every test or stops, and stands in order behind its stop too;
-- from version 2 it comes back
pub record IsMigrated (journal : List Record) : Type 0 where
  pub old : IsTrue (is_old journal)
  pub passes : PassesOrStops journal
  pub ordered : order_failure journal ≡ None
  pub comes_back : plain (in_version_2 journal) ≡ journal

-- its first failed test is another one than that of a stop, or behind its stop this one fails first
abbrev pub FailsAt : List Record → Failure → Type 0
FailsAt journal failure =
    (FirstFailure journal (Some failure) × (failure.rule ≢ rule.Closed)) ⊎ (PassesOrStops journal × (order_failure journal ≡ Some failure))

pub record IsFailing (journal : List Record) (failure : Failure) : Type 0 where
  pub old : IsTrue (is_old journal)
  pub fails : FailsAt journal failure

abbrev pub Judges : List ℕ → Result (Unit {0}) JournalEnd → Type 0
Judges bytes (Ok unit) = OfJournal bytes IsMigrated
Judges bytes (Err end) = EndsBytes (λ journal. is_old journal ≡ false) IsFailing bytes end
