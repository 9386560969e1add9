-- From the replay of a settlement to what `replay` answers.
use Rattle.std.proofs.Common.{◌≡◌, ℕ, List, Result, Ok, MatchResult}
use Rattle.ice_edge.specs.declared.sink.SinkFault.{SinkFault}
use Rattle.ice_edge.specs.declared.status.Status.{Status}
use Rattle.ice_edge.specs.declared.status.Status.TheVariants.{Done, WriteFault}
use Rattle.ice_edge.specs.Puts.{IsPut}
use Rattle.ice_edge.specs.Taken.{Taken}
use Rattle.ice_edge.specs.Told.{Told}
use Rattle.ice_replay.specs.declared.settlement.Replay.{Replay}
use Rattle.ice_replay.specs.Replays.{ReplaysBytes}
use Rattle.ice_replay.specs.Lines.{replay_lines}
use Rattle.ice_command_parts.specs.Call.{journal_limit}
use Rattle.ice_command_parts.specs.Parts.{AreFetched, Serves}
use Rattle.ice_commands.specs.ReplayServed.{ReplayAnswers}
use Rattle.ice_command_parts.proofs.Parts.{told_in_call}
use Rattle.ice_command_parts.proofs.Writing.{put_said}

-- the replay is put
pub replay_serves : (before after : Told) (file : List ℕ) (number : ℕ) (replay : Replay) (put : Result (Unit {0}) SinkFault) (result : Status) (old new : Taken)
    → (bytes : List ℕ) × ReplaysBytes bytes number (Ok replay) × AreFetched before file journal_limit bytes → IsPut (replay_lines replay) put old new
    → MatchResult put (λ done. result ≡ Done) (λ fault. result ≡ WriteFault) → Serves (λ call. ReplayAnswers call file number) before after old new result
replay_serves before after file number replay put result old new (bytes, is, told) puts ended = (
  replay_lines replay,
  Done,
  λ call part text. (replay, (bytes, is, told_in_call call before after file journal_limit (λ other. other ≡ bytes) part told), text),
  put_said put (replay_lines replay) Done result old new puts ended,
)
