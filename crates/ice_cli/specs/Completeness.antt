-- With files that are told, no fault of the outside, and
-- branches enough, a call ends as it is meant to.
use Rattle.std.specs.Prelude.{ℕ, ◌<◌, ◌≤◌, ◌≡◌, ◌≢◌, ◌⊎◌, List, length, Ok}
use Rattle.std.specs.List.{AllByRecursion}
use Rattle.ice_edge.specs.declared.status.Status.TheVariants.{Done, Input, No, Spent, Limit, NoMemory, StillOpen}
use Rattle.ice_defs.specs.Exchange.{Exchange}
use Rattle.ice_defs.specs.Round.{Submission}
use Rattle.ice_read.specs.RoundFile.{bids_of}
use Rattle.ice_session_laws.specs.Branches.{enough_for_session, enough_for_regret}
use Rattle.ice_gap_laws.specs.declared.answer.GapAnswer.TheVariants as answer
use Rattle.ice_gap_laws.specs.Gap.{Gap}
use Rattle.ice_gap_laws.specs.Answers.{AnswersGap}
use Rattle.ice_words.specs.Command.{Command, check, gap, regret, run, IsCommand}
use Rattle.ice_command_parts.specs.Call.{Call, IsTold, FaultRose, OverlongRose, SinkFaultRose, file_limit, journal_limit}
use Rattle.ice_command_parts.specs.Files.{IsExchangeOf}
use Rattle.ice_commands.specs.GapServed.{gap_line}
use Rattle.ice_cli.specs.Served.{IsServed}

-- no count of faults rose in the call
pub record IsFaultless (call : Call) : Type 0 where
  pub reads : (name : List ℕ) → ¬ FaultRose call name
  pub lengths : (name : List ℕ) (limit : ℕ) → ¬ OverlongRose call name limit
  pub writes : ¬ SinkFaultRose call

-- the call is this command on a journal file with these bytes,
-- which are told and within the limit, and nothing outside fails
pub record ReadsBytes (call : Call) (command : Command) (journal bytes : List ℕ) : Type 0 where
  pub served : IsServed call
  pub is : IsCommand call.words command
  pub faultless : IsFaultless call
  pub told : IsTold call journal bytes
  pub fits : length bytes ≤ journal_limit

-- ---- `check`

-- a check of told bytes says yes, no or refused
abbrev pub CheckCompletes : Type 0
CheckCompletes = (call : Call) (journal bytes : List ℕ) → ReadsBytes call (check journal) journal bytes
    → (call.status ≡ Done) ⊎ (call.status ≡ Input) ⊎ (call.status ≡ No) ⊎ (call.status ≡ NoMemory)

-- but for want of memory, which of these it is, and what is written, is a function of the bytes
abbrev pub CheckIsDecided : Type 0
CheckIsDecided = (one other : Call) (journal name bytes : List ℕ) → ReadsBytes one (check journal) journal bytes
    → ReadsBytes other (check name) name bytes → one.status ≢ NoMemory → other.status ≢ NoMemory
    → (one.status ≡ other.status) × (one.text ≡ other.text)

-- ---- `gap`

-- it writes a gap, which these bytes state
pub record WritesGapOf (call : Call) (bytes : List ℕ) : Type 0 where
  pub status : call.status ≡ Done
  pub gap : Gap
  pub states : AnswersGap bytes (Ok (answer.Gap gap.group gap.value gap.bound))
  pub text : call.text ≡ gap_line (answer.Gap gap.group gap.value gap.bound)

-- of what a command wrote whose branches are spent, `gap` writes a gap
abbrev pub SpentHasGap : Type 0
SpentHasGap = (call asked : Call) (journal : List ℕ) → IsServed call → call.status ≡ Spent
    → ReadsBytes asked (gap journal) journal call.text → WritesGapOf asked call.text ⊎ (asked.status ≡ NoMemory)

-- ---- `regret` and `run`

-- the file is told, is within the limit, and has this exchange
abbrev pub IsValidExchange : Call → List ℕ → Exchange → Type 0
IsValidExchange call name ex = (bytes : List ℕ) × IsTold call name bytes × (length bytes ≤ file_limit) × IsExchangeOf bytes (Ok ex)

-- or has bids
abbrev pub IsValidRound : Call → List ℕ → Type 0
IsValidRound call name = (bytes : List ℕ) × (bids : List Submission) × IsTold call name bytes × (length bytes ≤ file_limit)
    × (bids_of bytes ≡ Ok bids)

-- with branches enough for two searches, a regret is found
abbrev pub RegretCompletes : Type 0
RegretCompletes =
    (call : Call) (exchange : List ℕ) (ex : Exchange) → IsServed call → IsCommand call.words (regret exchange) → IsFaultless call
    → IsValidExchange call exchange ex
    → enough_for_regret ex ≤ ex.settings.branches → (call.status ≡ Done) ⊎ (call.status ≡ NoMemory)

-- with branches enough, a session closes, stays open, or ends at a limit of its pricing, and the
-- last only where the settings allow a round
abbrev pub RunCompletes : Type 0
RunCompletes =
    (call : Call) (exchange : List ℕ) (rounds : List (List ℕ)) (ex : Exchange) → IsServed call → IsCommand call.words (run exchange rounds)
    → IsFaultless call → IsValidExchange call exchange ex → AllByRecursion (IsValidRound call) rounds
    → enough_for_session ex ≤ ex.settings.branches
    → (call.status ≡ Done) ⊎ (call.status ≡ StillOpen) ⊎ ((call.status ≡ Limit) × (0 < ex.settings.rounds)) ⊎ (call.status ≡ NoMemory)
