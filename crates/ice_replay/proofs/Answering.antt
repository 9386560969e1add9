-- What is answered where the records end.
use Rattle.std.proofs.Common.{◌≡◌, ℕ, List, [], ◌∷◌, refl, sym, ◌∙◌, ap, subst, append-nil}
use Rattle.std.specs.Prelude.{Some, None, Result, Ok, Err}
use Rattle.ice_journal.specs.Records.{Record, session_kind}
use Rattle.ice_journal.specs.Records as line
use Rattle.ice_journal.specs.Journal.{IsJournal}
use Rattle.ice_journal_laws.specs.declared.answer.Answer.{Answer}
use Rattle.ice_journal_laws.specs.declared.answer.Answer.TheVariants as answer
use Rattle.ice_journal_laws.specs.declared.answer.CheckEnd.{CheckEnd}
use Rattle.ice_journal_laws.specs.declared.rule.Rule.{Rule}
use Rattle.ice_journal_laws.specs.declared.rule.Rule.TheVariants as rule
use Rattle.ice_journal_laws.specs.State.{State, begun}
use Rattle.ice_journal_laws.specs.Checks.{Failure, FirstFailure}
use Rattle.ice_journal_laws.specs.Progress.{Progress, nothing, other_kind, passing, failed, out_of_memory, Leads}
use Rattle.ice_journal_laws.specs.Answers.{EndsWith}
use Rattle.ice_journal_laws.specs.Theorems.{HasKind}
use Rattle.ice_journal_laws.proofs.Leading.{finds}
use Rattle.ice_journal_laws.proofs.Heads.{session_checked}
use Rattle.ice_reading.specs.declared.end.JournalEnd.{JournalEnd}
use Rattle.ice_replay.specs.declared.settlement.Replay.{Replay}
use Rattle.ice_replay.specs.declared.settlement.ReplayEnd.{ReplayEnd}
use Rattle.ice_replay.specs.declared.settlement.ReplayEnd.TheVariants.{Journal, NoSettlement}
use Rattle.ice_replay.specs.declared.watch.Watch.TheVariants as watch
use Rattle.ice_replay.specs.Settlements.{OfSession, IsSession, IsReplayable, passes, stops, Settles, prices_from, prices_of}
use Rattle.ice_replay.specs.Replays.{IsReplay, ReplaysBytes}
use Rattle.ice_replay.specs.Watching.{IsFine, prices_to_come, prices_behind, HasBegun, IsWhole, IsWatched}
use Rattle.ice_replay.specs.Ending.{IsForbidden, IsAllowed, IsReplayAllowed, IsAbsence, absent, refused}

answered : (a : Answer) (why : CheckEnd) → (let x : Result Answer CheckEnd = Ok a in x) ≡ Err why → ⊥
answered a why e = cc

-- ---- the checker's answer

-- it allows a replay: no test failed but that of a stop
pub allowed_fine : (p : Progress) (found : Result Answer CheckEnd) → EndsWith p found → IsAllowed found → IsFine p
allowed_fine nothing found e allowed = absurd (subst IsAllowed e allowed)
allowed_fine other_kind found e allowed = absurd (subst IsAllowed e allowed)
allowed_fine (passing s) found e allowed = tt
allowed_fine (failed f) found e allowed = subst IsAllowed e allowed
allowed_fine out_of_memory found e allowed = absurd (subst IsAllowed e allowed)

short_closed : rule.Short ≡ rule.Closed → ⊥
short_closed e = cc

pub allowed_replayable : (journal : List Record) (p : Progress) (found : Result Answer CheckEnd) → Leads nothing journal p → EndsWith p found → IsAllowed found → IsReplayable journal
allowed_replayable journal nothing found l e allowed = absurd (subst IsAllowed e allowed)
allowed_replayable journal other_kind found l e allowed = absurd (subst IsAllowed e allowed)
allowed_replayable journal out_of_memory found l e allowed = absurd (subst IsAllowed e allowed)
allowed_replayable journal (failed f) found l e allowed =
    let closed : f.rule ≡ rule.Closed = subst IsAllowed e allowed in
    stops f.line (subst (λ (y : Rule). FirstFailure journal (Some (record { line = f.line; rule = y }))) closed (finds journal (failed f) l).1)
allowed_replayable journal (passing s) (Ok (answer.Assign value)) l (place, kind, is) allowed = passes ((finds journal (passing s) l).1 place)
allowed_replayable journal (passing s) (Ok (answer.Regret amount)) l (place, kind, is) allowed = passes ((finds journal (passing s) l).1 place)
allowed_replayable journal (passing s) (Ok (answer.Closed regret surplus)) l (place, kind, is, more) allowed = passes ((finds journal (passing s) l).1 place)
allowed_replayable journal (passing s) (Ok (answer.No number test)) l (place, number_is, test_is) allowed = absurd (short_closed (sym test_is ∙ allowed))
allowed_replayable journal (passing s) (Err why) l e allowed = absurd e

has_kind : (journal : List Record) → IsSession journal → HasKind session_kind journal
has_kind (line.head v session_kind ∷ rest) h = refl
has_kind other h = absurd h

same_failure : (f : Failure) (number : ℕ) (test : Rule) → (let x : Result Answer CheckEnd = Ok (answer.No number test) in x) ≡ Ok (answer.No f.line f.rule) → (number ≡ f.line) × (test ≡ f.rule)
same_failure f number test e = (cc, cc)

-- it forbids one
pub forbidden : (bytes : List ℕ) (number : ℕ) (journal : List Record) (p : Progress) (found : Result Answer CheckEnd) (end : JournalEnd) → IsJournal bytes journal → Leads nothing journal p → EndsWith p found → IsSession journal
    → IsForbidden found end → ReplaysBytes bytes number (Err (Journal end))
forbidden bytes number journal p (Ok (answer.No place test)) end is l e session (same, other) =
    subst (λ (x : JournalEnd). ReplaysBytes bytes number (Err (Journal x))) (sym same) (journal, is, (session, first p l e, other))
  where
    first : (o : Progress) → Leads nothing journal o → EndsWith o (Ok (answer.No place test)) → FirstFailure journal (Some (record { line = place; rule = test }))
    first nothing l e = absurd (answered _ _ e)
    first other_kind l e = absurd (answered _ _ e)
    first out_of_memory l e = absurd (answered _ _ e)
    first (failed f) l e =
        let x = same_failure f place test e in
        subst (λ (g : Failure). FirstFailure journal (Some g)) (λ i. record { line = sym x.0 i; rule = sym x.1 i }) (finds journal (failed f) l).1
    first (passing s) l (not_done, place_is, test_is) =
        subst (λ (g : Failure). FirstFailure journal (Some g)) (λ i. record { line = sym place_is i; rule = sym test_is i }) ((finds journal (passing s) l).2 not_done)
forbidden bytes number journal p (Ok (answer.Assign value)) end is l e session h = absurd h
forbidden bytes number journal p (Ok (answer.Regret amount)) end is l e session h = absurd h
forbidden bytes number journal p (Ok (answer.Closed regret surplus)) end is l e session h = absurd h
forbidden bytes number journal p (Err why) end is l e session h = absurd (never p l e)
  where
    never : (o : Progress) → Leads nothing journal o → EndsWith o (Err why) → ⊥
    never nothing l e = finds journal nothing l (session_checked journal (has_kind journal session))
    never other_kind l e = finds journal other_kind l (session_checked journal (has_kind journal session))
    never out_of_memory l e = finds journal out_of_memory l
    never (failed f) l e = answered _ why (sym e)
    never (passing s) l e = e

-- ---- what is known of the settlement

-- what holds behind the head of a session still does
weaker : (P Q : State → List Record → Type 0) (journal : List Record) → ((s : State) (rest : List Record) → P s rest → Q s rest) → OfSession P journal → OfSession Q journal
weaker P Q (line.head v session_kind ∷ rest) each h = each (begun v session_kind) rest h
weaker P Q other each h = h

pub is_session : (P : State → List Record → Type 0) (journal : List Record) → OfSession P journal → IsSession journal
is_session P journal h = weaker P (λ s rest. Unit {0}) journal (λ s rest x. tt) h

module _ (bytes : List ℕ) (number : ℕ) (journal : List Record) (p : Progress) (found : Result Answer CheckEnd) (is : IsJournal bytes journal) (l : Leads nothing journal p) (e : EndsWith p found) where
  -- the records so far are all
  all_prices : (s : State) (rest : List Record) (x : Settles number s rest) → prices_behind x [] ≡ prices_of x
  all_prices s rest x = ap (λ (rs : List Record). prices_from x.state (line.regret x.amount ∷ rs)) (append-nil x.rest)

  module _ (allowed : IsAllowed found) where
    fine : IsFine p
    fine = allowed_fine p found e allowed

    pub before_ends : IsWatched number watch.Before p journal → ReplaysBytes bytes number (Err NoSettlement)
    before_ends h = (
      journal,
      is,
      (
        allowed_replayable journal p found l e allowed,
        weaker (λ s rest. IsFine p → ¬ Settles number s rest) (λ s rest. ¬ Settles number s rest) journal (λ s rest x. x fine) h,
      ),
    )

    pub begun_ends : (replay : Replay) → IsWatched number (watch.Begun replay) p journal → ReplaysBytes bytes number (Ok replay)
    begun_ends replay h = (
      journal,
      is,
      (
        allowed_replayable journal p found l e allowed,
        weaker (λ s rest. IsFine p → HasBegun number replay p s rest) (IsReplay number replay) journal (λ s rest x. let y = x fine in record { told = y.told; prices = y.none ∙ sym (none_left p) ∙ sym (y.prices []) ∙ all_prices s rest y.told.settles }) h,
      ),
    )
      where
        none_left : (o : Progress) → prices_to_come o [] ≡ None
        none_left nothing = refl
        none_left other_kind = refl
        none_left (passing s) = refl
        none_left (failed f) = refl
        none_left out_of_memory = refl

    pub whole_ends : (replay : Replay) → IsWatched number (watch.Whole replay) p journal → ReplaysBytes bytes number (Ok replay)
    whole_ends replay h = (
      journal,
      is,
      (
        allowed_replayable journal p found l e allowed,
        weaker (λ s rest. IsFine p → IsWhole number replay s rest) (IsReplay number replay) journal (λ s rest x. let y = x fine in record { told = y.told; prices = sym (y.prices []) ∙ all_prices s rest y.told.settles }) h,
      ),
    )

  -- no settlement is there
  pub absence_ends : (end : ReplayEnd) → IsAbsence found end → IsWatched number watch.Before p journal → ReplaysBytes bytes number (Err end)
  absence_ends _ (absent allowed) h = before_ends allowed h
  absence_ends _ (refused {end = end} why) h = forbidden bytes number journal p found end is l e (is_session (λ s rest. IsFine p → ¬ Settles number s rest) journal h) why

  -- one is there
  pub replay_ends : (replay : Replay) (result : Result Replay ReplayEnd) → IsReplayAllowed found replay result → (IsAllowed found → ReplaysBytes bytes number (Ok replay)) → IsSession journal → ReplaysBytes bytes number result
  replay_ends replay (Ok other) (allowed, same) h session = subst (λ (x : Replay). ReplaysBytes bytes number (Ok x)) (sym same) (h allowed)
  replay_ends replay (Err (Journal end)) why h session = forbidden bytes number journal p found end is l e session why
  replay_ends replay (Err NoSettlement) why h session = absurd why

  pub begun_replay : (replay : Replay) (result : Result Replay ReplayEnd) → IsReplayAllowed found replay result → IsWatched number (watch.Begun replay) p journal → ReplaysBytes bytes number result
  begun_replay replay result why h = replay_ends replay result why (λ allowed. begun_ends allowed replay h) (is_session (λ s rest. IsFine p → HasBegun number replay p s rest) journal h)

  pub whole_replay : (replay : Replay) (result : Result Replay ReplayEnd) → IsReplayAllowed found replay result → IsWatched number (watch.Whole replay) p journal → ReplaysBytes bytes number result
  whole_replay replay result why h = replay_ends replay result why (λ allowed. whole_ends allowed replay h) (is_session (λ s rest. IsFine p → IsWhole number replay s rest) journal h)
