-- What is found of a version 1 journal that passes every test, or that stops.
use Rattle.std.proofs.Common.{◌≡◌, ◌∙◌, inl, inr, ℕ, Bool, true, false, List, ◌∷◌, refl, sym, subst}
use Rattle.std.specs.Prelude.{Option, Some, None, option_map}
use Rattle.std.proofs.lemmas.Bool.{false≢true}
use Rattle.ice_journal.specs.Records.{Record, version_1, regret_kind, session_kind, Kind}
use Rattle.ice_journal.specs.Records as line
use Rattle.ice_journal.proofs.Packed.{plain_packed}
use Rattle.ice_journal_laws.specs.declared.rule.Rule.{Rule}
use Rattle.ice_journal_laws.specs.declared.rule.Rule.TheVariants as rule
use Rattle.ice_journal_laws.specs.declared.answer.Answer.{Answer}
use Rattle.ice_journal_laws.specs.declared.answer.Answer.TheVariants.{Assign, Regret, Closed, No}
use Rattle.ice_journal_laws.specs.Answers.{HasNo, AnswersJournal}
use Rattle.ice_journal_laws.specs.State.{begun}
use Rattle.ice_journal_laws.specs.Checks.{IsChecked, FirstFailure}
use Rattle.ice_migrate.specs.Order.{order_failure}
use Rattle.ice_migrate.specs.Migrating.{is_old, StopsAt, IsMigrated}
use Rattle.ice_migrate.specs.Found.{Tells}
use Rattle.ice_migrate.specs.Stopped.{failure_of}
use Rattle.ice_migrate.specs.declared.behind.FailedTest.{FailedTest}
use Rattle.ice_migrate.proofs.Stopping.{stop_past}
use Rattle.ice_migrate.proofs.Walking.{old_begins, old_after, tested_walks, tested_order, ordered_walks, stopped, walked_old}

-- the journals of which something is said are those of version 1
pub of_old : (P : List Record → Type 0) → ((kind : Kind) (rest : List Record) → is_old (line.head version_1 kind ∷ rest) ≡ true → P (line.head version_1 kind ∷ rest)) → (journal : List Record) → is_old journal ≡ true → P journal
of_old P each (line.head version_1 regret_kind ∷ rest) old = each regret_kind rest old
of_old P each (line.head version_1 session_kind ∷ rest) old = each session_kind rest old
of_old P each other old = absurd (false≢true old)

pub old_is_checked : (journal : List Record) → is_old journal ≡ true → IsChecked journal
old_is_checked (line.head version_1 regret_kind ∷ rest) old = refl
old_is_checked (line.head version_1 session_kind ∷ rest) old = refl
old_is_checked other old = absurd (false≢true old)

-- it passes every test
pub passing_migrates : (journal : List Record) → is_old journal ≡ true → FirstFailure journal None → IsMigrated journal
passing_migrates = of_old (λ journal. FirstFailure journal None → IsMigrated journal)
    (λ kind rest old t. record {
      old = old;
      passes = inl t;
      ordered = tested_order (begun version_1 kind) rest t;
      comes_back = plain_packed kind rest (walked_old kind rest (tested_walks (begun version_1 kind) rest t));
    })

-- it stops, and stands in order behind its stop
pub stopped_migrates : (number : ℕ) (journal : List Record) → is_old journal ≡ true → StopsAt number journal → order_failure journal ≡ None → IsMigrated journal
stopped_migrates number = of_old (λ journal. StopsAt number journal → order_failure journal ≡ None → IsMigrated journal)
    (λ kind rest old t order. let x = stopped (begun version_1 kind) rest (record { line = number; rule = rule.Closed }) (old_begins kind) t refl in record {
      old = old;
      passes = inr (number, t);
      ordered = order;
      comes_back = plain_packed kind rest (walked_old kind rest (x.walks (ordered_walks x.now x.after (old_after x.at x.now x.first x.follows_it) (stop_past x.at x.now x.first x.stop x.leads) (sym x.order ∙ order))));
    })

pub stop_tells : (number : ℕ) (journal : List Record) (found : Option FailedTest) → is_old journal ≡ true → StopsAt number journal → order_failure journal ≡ option_map failure_of found → Tells journal found
stop_tells number journal None old stops order = stopped_migrates number journal old stops order
stop_tells number journal (Some failed) old stops order = record { old = old; fails = inr (inr (number, stops), order) }

-- a first failed test that is a stop
pub closed_stops : (journal : List Record) (number : ℕ) (test : Rule) → test ≡ rule.Closed → HasNo journal (record { line = number; rule = test }) → StopsAt number journal
closed_stops journal number test closed failing = subst (λ (y : Rule). FirstFailure journal (Some (record { line = number; rule = y }))) closed failing.1

-- an answer that is no such test
pub yes_passes : (journal : List Record) (answer : Answer) → ((number : ℕ) (test : Rule) → answer ≡ No number test → ⊥) → AnswersJournal journal answer → FirstFailure journal None
yes_passes journal (Assign value) not_no h = h.0.1
yes_passes journal (Regret amount) not_no h = h.0.1
yes_passes journal (Closed regret surplus) not_no h = h.0.1
yes_passes journal (No number test) not_no h = absurd (not_no number test refl)

-- no journal of version 1 is of a kind that isn't checked
pub unchecked : (journal : List Record) → ¬ IsChecked journal → is_old journal ≡ false
unchecked journal none = by (is_old journal) (λ old. none (old_is_checked journal old))
  where
    by : (old : Bool) → (old ≡ true → ⊥) → old ≡ false
    by true not = absurd (not refl)
    by false not = refl
