-- But for want of memory, bytes have one answer for a name.
use Rattle.std.proofs.Common.{◌≡◌, ℕ, true, false, List, ◌∷◌, refl, sym, ◌∙◌, ap}
use Rattle.std.specs.Prelude.{Some, None, Result, Ok, Err}
use Rattle.std.proofs.lemmas.Bool.{true≢false}
use Rattle.std.proofs.lemmas.Option.{none-some, same_Some}
use Rattle.ice_journal.specs.Records.{Record, version_2, session_kind}
use Rattle.ice_journal.specs.Records as line
use Rattle.ice_journal.specs.Plain.{plain}
use Rattle.ice_journal_laws.specs.declared.answer.CheckEnd.TheVariants.{OtherKind}
use Rattle.ice_journal_laws.specs.declared.rule.Rule.{Rule}
use Rattle.ice_journal_laws.specs.Checks.{Failure, FirstFailure}
use Rattle.ice_journal_laws.proofs.Single.{same_failure}
use Rattle.ice_reading.specs.declared.end.JournalEnd.{JournalEnd}
use Rattle.ice_reading.specs.declared.end.JournalEnd.TheVariants.{Unjudged, FailsTest}
use Rattle.ice_reading.proofs.Deciding.{Finds, of_journal, end_found, one_found}
use Rattle.ice_statement.specs.declared.judging.StatementEnd.{StatementEnd}
use Rattle.ice_statement.specs.declared.judging.StatementEnd.TheVariants.{Journal, NoBidder}
use Rattle.ice_statement.specs.Judging.{is_session, HasStatement, HasNoBidder, IsFailing, MayState}
use Rattle.ice_statement.specs.Laws.{OneStatementAnswer}

-- ---- what a journal answers

data Answers (name : List ℕ) (journal : List Record) : Result (Unit {0}) StatementEnd → Type 0 where
  states : (unit : Unit {0}) → HasStatement name journal → Answers name journal (Ok unit)
  of_no_session : is_session journal ≡ false → Answers name journal (Err (Journal (Unjudged OtherKind)))
  fails : (place : ℕ) (test : Rule) → IsFailing journal (record { line = place; rule = test }) → Answers name journal (Err (Journal (FailsTest place test)))
  wants_bidder : HasNoBidder name journal → Answers name journal (Err NoBidder)

same_kind : (journal : List Record) → is_session (plain journal) ≡ is_session journal
same_kind (line.head version_2 session_kind ∷ rest) = refl
same_kind (line.head version_2 other ∷ rest) = refl
same_kind other = refl

-- what has a statement is a journal of a session
stated_session : (name : List ℕ) (journal : List Record) → HasStatement name journal → is_session journal ≡ true
stated_session name journal h = sym (same_kind journal) ∙ ap is_session h.is.says

no_session : {A : Type 0} (journal : List Record) → is_session journal ≡ true → is_session journal ≡ false → A
no_session journal is_one is_none = absurd (true≢false (sym is_one ∙ is_none))

passes_fails : {A : Type 0} (journal : List Record) (f : Failure) → FirstFailure journal None → FirstFailure journal (Some f) → A
passes_fails journal f passes failed = absurd (none-some f (same_failure journal None (Some f) passes failed))

module _ (name : List ℕ) (journal : List Record) where
  of_one_journal : (one other : Result (Unit {0}) StatementEnd) → Answers name journal one → Answers name journal other → one ≡ other
  of_one_journal _ _ (states unit h) (states other k) = refl
  of_one_journal _ _ (states unit h) (of_no_session none) = no_session journal (stated_session name journal h) none
  of_one_journal _ _ (states unit h) (fails m x k) = passes_fails journal (record { line = m; rule = x }) h.checks.1 k.fails.1
  of_one_journal _ _ (states unit h) (wants_bidder k) = absurd (k.none h.own h.is)
  of_one_journal _ _ (of_no_session none) (states unit k) = no_session journal (stated_session name journal k) none
  of_one_journal _ _ (of_no_session none) (of_no_session none') = refl
  of_one_journal _ _ (of_no_session none) (fails m x k) = no_session journal k.session none
  of_one_journal _ _ (of_no_session none) (wants_bidder k) = no_session journal k.session none
  of_one_journal _ _ (fails m x h) (states unit k) = passes_fails journal (record { line = m; rule = x }) k.checks.1 h.fails.1
  of_one_journal _ _ (fails m x h) (of_no_session none) = no_session journal h.session none
  of_one_journal _ _ (fails m x h) (fails n y k) =
      let f : Failure = record { line = m; rule = x } in
      let g : Failure = record { line = n; rule = y } in
      ap (λ (z : Failure). Err (Journal (FailsTest z.line z.rule))) (same_Some f g (same_failure journal (Some f) (Some g) h.fails.1 k.fails.1))
  of_one_journal _ _ (fails m x h) (wants_bidder k) = passes_fails journal (record { line = m; rule = x }) k.checks.1 h.fails.1
  of_one_journal _ _ (wants_bidder h) (states unit k) = absurd (h.none k.own k.is)
  of_one_journal _ _ (wants_bidder h) (of_no_session none) = no_session journal h.session none
  of_one_journal _ _ (wants_bidder h) (fails n y k) = passes_fails journal (record { line = n; rule = y }) h.checks.1 k.fails.1
  of_one_journal _ _ (wants_bidder h) (wants_bidder k) = refl

-- ---- what bytes answer

-- a journal's end among the answers
abbrev said : JournalEnd → Result (Unit {0}) StatementEnd
said end = Err (Journal end)

finds : (bytes name : List ℕ) (answer : Result (Unit {0}) StatementEnd) → MayState bytes name answer → Finds said (Answers name) bytes answer
finds bytes name (Ok unit) (j, is, h) = of_journal j (Ok unit) is (states unit h)
finds bytes name (Err (Journal end)) h =
    end_found said (Answers name) (λ journal. is_session journal ≡ false) IsFailing (λ journal none. of_no_session none) (λ journal place test h. fails place test h) bytes end h
finds bytes name (Err NoBidder) (j, is, h) = of_journal j (Err NoBidder) is (wants_bidder h)

pub one_statement_answer : OneStatementAnswer
one_statement_answer bytes name one other h k =
    one_found said (Answers name) (λ a b. a ≡ b) (λ end. refl) (of_one_journal name) bytes one other (finds bytes name one h) (finds bytes name other k)
