-- What `replay` writes at each status: what the session says of the settlement.
use Rattle.std.specs.Prelude.{ℕ, ◌≡◌, List, Result, Ok, Err}
use Rattle.ice_edge.specs.declared.status.Status.{Status}
use Rattle.ice_edge.specs.declared.status.Status.TheVariants.{Done, No}
use Rattle.ice_defs.specs.FileFault.{FileFault}
use Rattle.ice_journal_laws.specs.Checks.{Failure}
use Rattle.ice_reading.specs.declared.end.JournalEnd.{JournalEnd}
use Rattle.ice_reading.specs.declared.end.JournalEnd.TheVariants.{FailsTest}
use Rattle.ice_replay.specs.declared.settlement.Replay.{Replay}
use Rattle.ice_replay.specs.declared.settlement.ReplayEnd.{ReplayEnd}
use Rattle.ice_replay.specs.declared.settlement.ReplayEnd.TheVariants.{Journal, NoSettlement}
use Rattle.ice_replay.specs.Replays.{ReplaysBytes}
use Rattle.ice_replay.specs.Lines.{replay_lines}
use Rattle.ice_command_parts.specs.Call.{Call, journal_limit, OfFile}
use Rattle.ice_command_parts.specs.Refusals.{no_settlement}
use Rattle.ice_commands.specs.Output.{no_line}
use Rattle.ice_commands.specs.Ends.{IsJournalFault, RefusesFile}

-- the fault of bytes that are not replayed
abbrev pub IsReplayEnd : ReplayEnd → FileFault → Type 0
IsReplayEnd (Journal end) fault = IsJournalFault end fault
IsReplayEnd NoSettlement fault = fault ≡ no_settlement

-- why bytes are not replayed whatever the number is
abbrev pub NotReplayed : ℕ → List ℕ → JournalEnd → Type 0
NotReplayed number bytes end = ReplaysBytes bytes number (Err (Journal end))

abbrev pub IsReplayFault : ℕ → List ℕ → FileFault → Type 0
IsReplayFault number bytes fault = (end : ReplayEnd) × ReplaysBytes bytes number (Err end) × IsReplayEnd end fault

-- this is the replay of the bytes of the file, which are those that are told
abbrev pub HasReplay : Call → List ℕ → ℕ → Result Replay ReplayEnd → Type 0
HasReplay call file number found = (bytes : List ℕ) × ReplaysBytes bytes number found
    × OfFile call file journal_limit (λ told. told ≡ bytes)

abbrev pub ReplayAnswers : Call → List ℕ → ℕ → Status → Type 0
ReplayAnswers call file number Done = (replay : Replay) × HasReplay call file number (Ok replay) × (call.text ≡ replay_lines replay)
ReplayAnswers call file number No =
    (failure : Failure) × HasReplay call file number (Err (Journal (FailsTest failure.line failure.rule))) × (call.text ≡ no_line failure)
ReplayAnswers call file number other = RefusesFile call file (IsReplayFault number) other
