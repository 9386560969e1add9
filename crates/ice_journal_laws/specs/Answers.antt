-- What the checker answers of the bytes of a journal.
use Rattle.std.specs.Prelude.{ℕ, ◌≡◌, ◌≢◌, List, Some, Result, Ok, Err}
use Rattle.ice_defs.specs.Trade.{total_value}
use Rattle.ice_defs.specs.Weighing.{lower_weights}
use Rattle.ice_journal.specs.Records.{Record, assign_kind, regret_kind, session_kind}
use Rattle.ice_journal.specs.Journal.{grammar, unended, IsJournal, IsLinesFault}
use Rattle.ice_journal_laws.specs.declared.answer.Answer.{Answer}
use Rattle.ice_journal_laws.specs.declared.answer.Answer.TheVariants.{Assign, Regret, Closed, No}
use Rattle.ice_journal_laws.specs.declared.answer.CheckEnd.{CheckEnd}
use Rattle.ice_journal_laws.specs.declared.answer.CheckEnd.TheVariants.{Grammar, Unended, OtherKind, NoMemory}
use Rattle.ice_journal_laws.specs.declared.rule.Rule.TheVariants as rule
use Rattle.ice_journal_laws.specs.State.{done}
use Rattle.ice_journal_laws.specs.Checks.{Failure, IsChecked, FirstFailure, Checks}
use Rattle.ice_journal_laws.specs.Theorems.{Yes, of_assigned, of_regret, of_session, IsYes}
use Rattle.ice_journal_laws.specs.Progress.{Progress, nothing, other_kind, passing, failed, out_of_memory, Leads}

-- the bytes are a journal, and P holds of its records
abbrev pub OfJournal : List ℕ → (List Record → Type 0) → Type 0
OfJournal bytes P = (journal : List Record) × IsJournal bytes journal × P journal

-- the journal passes every test, and its yes says this
abbrev pub HasYes : List Record → Yes → Type 0
HasYes journal said = Checks journal × IsYes journal said

-- the journal is of a kind that is checked, and this is its first failed test
abbrev pub HasNo : List Record → Failure → Type 0
HasNo journal failure = IsChecked journal × FirstFailure journal (Some failure)

-- the answer to a journal: its yes, or its first failed test
abbrev pub AnswersJournal : List Record → Answer → Type 0
AnswersJournal journal (Assign value) = HasYes journal (of_assigned value)
AnswersJournal journal (Regret amount) = HasYes journal (of_regret amount)
AnswersJournal journal (Closed regret surplus) = HasYes journal (of_session regret surplus)
AnswersJournal journal (No line test) = HasNo journal (record { line = line; rule = test })

-- the answer to bytes: the least line at fault comes first, then another kind, then the first
-- failed test or the yes; want of memory may be answered to any bytes
abbrev pub AnswersBytes : List ℕ → Result Answer CheckEnd → Type 0
AnswersBytes bytes (Ok answer) = OfJournal bytes (λ journal. AnswersJournal journal answer)
AnswersBytes bytes (Err (Grammar line)) = IsLinesFault bytes (grammar line)
AnswersBytes bytes (Err (Unended line)) = IsLinesFault bytes (unended line)
AnswersBytes bytes (Err OtherKind) = OfJournal bytes (λ journal. ¬ IsChecked journal)
AnswersBytes bytes (Err NoMemory) = Unit {0}

-- what is answered where the records end
abbrev pub EndsWith : Progress → Result Answer CheckEnd → Type 0
EndsWith nothing answer = answer ≡ Err OtherKind
EndsWith other_kind answer = answer ≡ Err OtherKind
EndsWith out_of_memory answer = answer ≡ Err NoMemory
EndsWith (failed failure) answer = answer ≡ Ok (No failure.line failure.rule)
EndsWith (passing s) (Ok (Assign value)) = (s.place ≡ done) × (s.kind ≡ assign_kind)
    × (value ≡ total_value s.final.sets (lower_weights s.bounds))
EndsWith (passing s) (Ok (Regret amount)) = (s.place ≡ done) × (s.kind ≡ regret_kind) × (amount ≡ s.regret)
EndsWith (passing s) (Ok (Closed regret surplus)) = (s.place ≡ done) × (s.kind ≡ session_kind) × (regret ≡ s.regret) × (surplus ≡ s.surplus)
EndsWith (passing s) (Ok (No line test)) = (s.place ≢ done) × (line ≡ s.line) × (test ≡ rule.Short)
EndsWith (passing s) (Err fault) = ⊥

-- what is answered where the records end is what the tests find of the whole journal
abbrev pub EndIsAnswer : Type 0
EndIsAnswer = (bytes : List ℕ) (journal : List Record) (p : Progress) (answer : Result Answer CheckEnd)
    → IsJournal bytes journal → Leads nothing journal p → EndsWith p answer → AnswersBytes bytes answer

-- the tests of the journal that the bytes are have come this far
abbrev pub HoldsJournal : List ℕ → Progress → Type 0
HoldsJournal bytes p = OfJournal bytes (λ journal. Leads nothing journal p)

-- two answers to the same bytes are one, unless either is want of memory
abbrev pub OneAnswer : Type 0
OneAnswer = (bytes : List ℕ) (one other : Result Answer CheckEnd) → AnswersBytes bytes one → AnswersBytes bytes other → one ≢ Err NoMemory
    → other ≢ Err NoMemory → one ≡ other
