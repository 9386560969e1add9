-- What is answered where the records end.
use Rattle.std.specs.Prelude.{ℕ, ◌≡◌, ◌≢◌, List, Result, Ok, Err}
use Rattle.ice_journal.specs.Records.{Record}
use Rattle.ice_journal.specs.Journal.{IsJournal}
use Rattle.ice_journal_laws.specs.declared.answer.Answer.{Answer}
use Rattle.ice_journal_laws.specs.declared.answer.Answer.TheVariants as answer
use Rattle.ice_journal_laws.specs.declared.answer.CheckEnd.{CheckEnd}
use Rattle.ice_journal_laws.specs.declared.rule.Rule.TheVariants as rule
use Rattle.ice_journal_laws.specs.Progress.{Progress, nothing, Leads}
use Rattle.ice_journal_laws.specs.Answers.{EndsWith}
use Rattle.ice_reading.specs.declared.end.JournalEnd.{JournalEnd}
use Rattle.ice_reading.specs.declared.end.JournalEnd.TheVariants.{Unjudged, FailsTest}
use Rattle.ice_replay.specs.declared.settlement.Replay.{Replay}
use Rattle.ice_replay.specs.declared.settlement.ReplayEnd.{ReplayEnd}
use Rattle.ice_replay.specs.declared.settlement.ReplayEnd.TheVariants.{Journal, NoSettlement}
use Rattle.ice_replay.specs.declared.watch.Watch.{Watch}
use Rattle.ice_replay.specs.Replays.{ReplaysBytes}
use Rattle.ice_replay.specs.Watching.{IsWatched}

-- why an answer of the checker forbids a replay
abbrev pub IsForbidden : Result Answer CheckEnd → JournalEnd → Type 0
IsForbidden (Ok (answer.No line test)) end = (end ≡ FailsTest line test) × (test ≢ rule.Closed)
IsForbidden (Ok other) end = ⊥
IsForbidden (Err why) end = end ≡ Unjudged why

-- it allows one
abbrev pub IsAllowed : Result Answer CheckEnd → Type 0
IsAllowed (Ok (answer.No line test)) = test ≡ rule.Closed
IsAllowed (Ok other) = Unit {0}
IsAllowed (Err why) = ⊥

abbrev pub IsJudged : Result Answer CheckEnd → Result (Unit {0}) JournalEnd → Type 0
IsJudged found (Ok unit) = IsAllowed found
IsJudged found (Err end) = IsForbidden found end

-- a replay, where the answer allows one
abbrev pub IsReplayAllowed : Result Answer CheckEnd → Replay → Result Replay ReplayEnd → Type 0
IsReplayAllowed found replay (Ok other) = IsAllowed found × (other ≡ replay)
IsReplayAllowed found replay (Err (Journal end)) = IsForbidden found end
IsReplayAllowed found replay (Err NoSettlement) = ⊥

-- or that there is none
pub data IsAbsence (found : Result Answer CheckEnd) : ReplayEnd → Type 0 where
  absent : IsAllowed found → IsAbsence found NoSettlement
  refused : {end : JournalEnd} → IsForbidden found end → IsAbsence found (Journal end)

-- what is known of the settlement, and the checker's answer, make this the answer
abbrev pub Concludes : Watch → Result Answer CheckEnd → Result Replay ReplayEnd → Type 0
Concludes w found result =
    (bytes : List ℕ) (number : ℕ) (journal : List Record) (p : Progress) → IsJournal bytes journal
    → Leads nothing journal p → EndsWith p found → IsWatched number w p journal
    → ReplaysBytes bytes number result
