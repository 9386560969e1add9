-- But for want of memory, bytes have one replay of a settlement, or one reason why there is none.
use Rattle.std.proofs.Common.{◌≡◌, ◌≢◌, ℕ, List, ◌∷◌, refl, sym, ap}
use Rattle.std.specs.Prelude.{Some, None, Result, Ok, Err}
use Rattle.std.proofs.lemmas.Option.{none-some, same_Some}
use Rattle.ice_journal.specs.Records.{Record, session_kind}
use Rattle.ice_journal.specs.Records as line
use Rattle.ice_journal_laws.specs.declared.answer.CheckEnd.TheVariants.{OtherKind}
use Rattle.ice_journal_laws.specs.declared.rule.Rule.{Rule}
use Rattle.ice_journal_laws.specs.declared.rule.Rule.TheVariants as rule
use Rattle.ice_journal_laws.specs.State.{State}
use Rattle.ice_journal_laws.specs.Checks.{Failure, FirstFailure}
use Rattle.ice_journal_laws.proofs.Single.{same_failure}
use Rattle.ice_reading.specs.declared.end.JournalEnd.{JournalEnd}
use Rattle.ice_reading.specs.declared.end.JournalEnd.TheVariants.{Unjudged, FailsTest}
use Rattle.ice_reading.proofs.Deciding.{Finds, of_journal, end_found, one_found}
use Rattle.ice_replay.specs.declared.settlement.Replay.{Replay}
use Rattle.ice_replay.specs.declared.settlement.ReplayEnd.{ReplayEnd}
use Rattle.ice_replay.specs.declared.settlement.ReplayEnd.TheVariants.{Journal, NoSettlement}
use Rattle.ice_replay.specs.Settlements.{OfSession, IsSession, IsReplayable, passes, stops, Settles}
use Rattle.ice_replay.specs.Replays.{IsReplay, FailsOther, ReplaysBytes}
use Rattle.ice_replay.specs.Laws.{AnswerTheSame, OneReplayAnswer}
use Rattle.ice_replay.proofs.Same.{of_session}

-- ---- what a journal answers

-- the answer of a journal
data Answers (number : ℕ) (journal : List Record) : Result Replay ReplayEnd → Type 0 where
  replays : (replay : Replay) → IsReplayable journal → OfSession (IsReplay number replay) journal → Answers number journal (Ok replay)
  of_no_session : ¬ IsSession journal → Answers number journal (Err (Journal (Unjudged OtherKind)))
  fails : (place : ℕ) (test : Rule) → IsSession journal → FirstFailure journal (Some (record { line = place; rule = test })) → test ≢ rule.Closed → Answers number journal (Err (Journal (FailsTest place test)))
  settles_none : IsReplayable journal → OfSession (λ s records. ¬ Settles number s records) journal → Answers number journal (Err NoSettlement)

is_session : (P : State → List Record → Type 0) (journal : List Record) → OfSession P journal → IsSession journal
is_session P (line.head v session_kind ∷ rest) h = tt
is_session P other h = absurd h

-- a stop is the only test that a replayable journal may fail first
fails_other : (journal : List Record) (failure : Failure) → IsReplayable journal → FirstFailure journal (Some failure) → failure.rule ≢ rule.Closed → ⊥
fails_other journal failure (passes first) failed other = none-some failure (same_failure journal None (Some failure) first failed)
fails_other journal failure (stops place first) failed other =
    other (sym (ap (λ (f : Failure). f.rule) (same_Some (record { line = place; rule = rule.Closed }) failure (same_failure journal (Some (record { line = place; rule = rule.Closed })) (Some failure) first failed))))

settles_not : (number : ℕ) (replay : Replay) (journal : List Record) → OfSession (IsReplay number replay) journal → OfSession (λ s records. ¬ Settles number s records) journal → ⊥
settles_not number replay (line.head v session_kind ∷ rest) h none = none h.told.settles
settles_not number replay other h none = absurd h

same_test : (journal : List Record) (f g : Failure) → FirstFailure journal (Some f) → FirstFailure journal (Some g) → f ≡ g
same_test journal f g h k = same_Some f g (same_failure journal (Some f) (Some g) h k)

of_one_journal : (number : ℕ) (journal : List Record) (one other : Result Replay ReplayEnd) → Answers number journal one → Answers number journal other → AnswerTheSame one other
of_one_journal number journal _ _ (replays x may h) (replays y may' k) = of_session number x y journal h k
of_one_journal number journal _ _ (replays x may h) (of_no_session none) = absurd (none (is_session (IsReplay number x) journal h))
of_one_journal number journal _ _ (replays x may h) (fails m test is first other) = absurd (fails_other journal (record { line = m; rule = test }) may first other)
of_one_journal number journal _ _ (replays x may h) (settles_none may' none) = absurd (settles_not number x journal h none)
of_one_journal number journal _ _ (of_no_session none) (replays x may h) = absurd (none (is_session (IsReplay number x) journal h))
of_one_journal number journal _ _ (of_no_session none) (of_no_session none') = refl
of_one_journal number journal _ _ (of_no_session none) (fails m test is first other) = absurd (none is)
of_one_journal number journal _ _ (of_no_session none) (settles_none may h) = absurd (none (is_session (λ s records. ¬ Settles number s records) journal h))
of_one_journal number journal _ _ (fails m test is first other) (replays x may h) = absurd (fails_other journal (record { line = m; rule = test }) may first other)
of_one_journal number journal _ _ (fails m test is first other) (of_no_session none) = absurd (none is)
of_one_journal number journal _ _ (fails m x is first other) (fails n y is' first' other') =
    ap (λ (f : Failure). Journal (FailsTest f.line f.rule)) (same_test journal (record { line = m; rule = x }) (record { line = n; rule = y }) first first')
of_one_journal number journal _ _ (fails m test is first other) (settles_none may h) = absurd (fails_other journal (record { line = m; rule = test }) may first other)
of_one_journal number journal _ _ (settles_none may h) (replays x may' k) = absurd (settles_not number x journal k h)
of_one_journal number journal _ _ (settles_none may h) (of_no_session none) = absurd (none (is_session (λ s records. ¬ Settles number s records) journal h))
of_one_journal number journal _ _ (settles_none may h) (fails m test is first other) = absurd (fails_other journal (record { line = m; rule = test }) may first other)
of_one_journal number journal _ _ (settles_none may h) (settles_none may' k) = refl

-- ---- what bytes answer

-- a journal's end among the answers
abbrev said : JournalEnd → Result Replay ReplayEnd
said end = Err (Journal end)

finds : (bytes : List ℕ) (number : ℕ) (answer : Result Replay ReplayEnd) → ReplaysBytes bytes number answer → Finds said (Answers number) bytes answer
finds bytes number (Ok x) (j, is, (may, h)) = of_journal j (Ok x) is (replays x may h)
finds bytes number (Err (Journal end)) h =
    end_found said (Answers number) (λ journal. ¬ IsSession journal) FailsOther (λ journal none. of_no_session none)
    (λ journal line test fails_so. fails line test fails_so.0 fails_so.1 fails_so.2) bytes end h
finds bytes number (Err NoSettlement) (j, is, (may, h)) = of_journal j (Err NoSettlement) is (settles_none may h)

same_end : (end : JournalEnd) → AnswerTheSame (said end) (said end)
same_end end = refl

pub one_replay_answer : OneReplayAnswer
one_replay_answer bytes number one other h k =
    one_found said (Answers number) AnswerTheSame same_end (of_one_journal number) bytes one other (finds bytes number one h) (finds bytes number other k)
