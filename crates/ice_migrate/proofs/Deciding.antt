-- But for want of memory, bytes are judged in one way.
use Rattle.std.proofs.Common.{◌≡◌, ◌≢◌, ℕ, List, refl, sym, ◌∙◌, ap, inl, inr}
use Rattle.std.specs.Prelude.{false, Some, None, Result, Ok, Err}
use Rattle.std.proofs.lemmas.Bool.{true≢false}
use Rattle.std.proofs.lemmas.Option.{none-some, same_Some}
use Rattle.ice_journal.specs.Records.{Record}
use Rattle.ice_journal_laws.specs.declared.answer.CheckEnd.TheVariants.{OtherKind}
use Rattle.ice_journal_laws.specs.declared.rule.Rule.{Rule}
use Rattle.ice_journal_laws.specs.declared.rule.Rule.TheVariants as rule
use Rattle.ice_journal_laws.specs.Checks.{Failure, FirstFailure}
use Rattle.ice_journal_laws.proofs.Single.{same_failure}
use Rattle.ice_reading.specs.declared.end.JournalEnd.{JournalEnd}
use Rattle.ice_reading.specs.declared.end.JournalEnd.TheVariants.{Unjudged, FailsTest}
use Rattle.ice_reading.proofs.Deciding.{Finds, of_journal, end_found, one_found}
use Rattle.ice_migrate.specs.Migrating.{is_old, PassesOrStops, IsMigrated, FailsAt, IsFailing, Judges}
use Rattle.ice_migrate.specs.Laws.{OneJudgement}

-- ---- the judgement of a journal

-- a stop is the only test that a journal may fail first that passes or stops
fails_other : (journal : List Record) (failure : Failure) → PassesOrStops journal → FirstFailure journal (Some failure) → failure.rule ≢ rule.Closed → ⊥
fails_other journal failure (inl first) failed other = none-some failure (same_failure journal None (Some failure) first failed)
fails_other journal failure (inr (place, first)) failed other =
    other (sym (ap (λ (f : Failure). f.rule) (same_Some (record { line = place; rule = rule.Closed }) failure (same_failure journal (Some (record { line = place; rule = rule.Closed })) (Some failure) first failed))))

migrated_fails : (journal : List Record) (failure : Failure) → IsMigrated journal → FailsAt journal failure → ⊥
migrated_fails journal failure is (inl (first, other)) = fails_other journal failure is.passes first other
migrated_fails journal failure is (inr (stops, order)) = none-some failure (sym is.ordered ∙ order)

one_failure : (journal : List Record) (f g : Failure) → FailsAt journal f → FailsAt journal g → f ≡ g
one_failure journal f g (inl (first, other)) (inl (first', other')) = same_Some f g (same_failure journal (Some f) (Some g) first first')
one_failure journal f g (inl (first, other)) (inr (stops, order)) = absurd (fails_other journal f stops first other)
one_failure journal f g (inr (stops, order)) (inl (first, other)) = absurd (fails_other journal g stops first other)
one_failure journal f g (inr (stops, order)) (inr (stops', order')) = same_Some f g (sym order ∙ order')

-- the judgement of a journal
data Answers (journal : List Record) : Result (Unit {0}) JournalEnd → Type 0 where
  migrates : IsMigrated journal → Answers journal (Ok tt)
  of_other_kind : is_old journal ≡ false → Answers journal (Err (Unjudged OtherKind))
  fails : (place : ℕ) (test : Rule) → IsFailing journal (record { line = place; rule = test }) → Answers journal (Err (FailsTest place test))

of_one_journal : (journal : List Record) (one other : Result (Unit {0}) JournalEnd) → Answers journal one → Answers journal other → one ≡ other
of_one_journal journal _ _ (migrates is) (migrates is') = refl
of_one_journal journal _ _ (migrates is) (of_other_kind new) = absurd (true≢false (sym is.old ∙ new))
of_one_journal journal _ _ (migrates is) (fails place test f) = absurd (migrated_fails journal (record { line = place; rule = test }) is f.fails)
of_one_journal journal _ _ (of_other_kind new) (migrates is) = absurd (true≢false (sym is.old ∙ new))
of_one_journal journal _ _ (of_other_kind new) (of_other_kind other') = refl
of_one_journal journal _ _ (of_other_kind new) (fails place test f) = absurd (true≢false (sym f.old ∙ new))
of_one_journal journal _ _ (fails place test f) (migrates is) = absurd (migrated_fails journal (record { line = place; rule = test }) is f.fails)
of_one_journal journal _ _ (fails place test f) (of_other_kind new) = absurd (true≢false (sym f.old ∙ new))
of_one_journal journal _ _ (fails m x f) (fails n y g) =
    ap (λ (h : Failure). Err (FailsTest h.line h.rule)) (one_failure journal (record { line = m; rule = x }) (record { line = n; rule = y }) f.fails g.fails)

-- ---- the judgement of bytes

-- a journal's end among the judgements
abbrev said : JournalEnd → Result (Unit {0}) JournalEnd
said end = Err end

finds : (bytes : List ℕ) (answer : Result (Unit {0}) JournalEnd) → Judges bytes answer → Finds said Answers bytes answer
finds bytes (Ok unit) (j, is, h) = of_journal j (Ok unit) is (migrates h)
finds bytes (Err end) h = end_found said Answers (λ journal. is_old journal ≡ false) IsFailing (λ journal new. of_other_kind new) (λ journal place test f. fails place test f) bytes end h

pub one_judgement : OneJudgement
one_judgement bytes one other h k = one_found said Answers (λ a b. a ≡ b) (λ end. refl) of_one_journal bytes one other (finds bytes one h) (finds bytes other k)
