-- From a journal that is judged to what `migrate` answers.
use Rattle.std.proofs.Common.{◌≡◌, ℕ, List, Result, MatchResult}
use Rattle.ice_edge.specs.declared.sink.SinkFault.{SinkFault}
use Rattle.ice_edge.specs.declared.status.Status.{Status}
use Rattle.ice_edge.specs.declared.status.Status.TheVariants.{Done, WriteFault}
use Rattle.ice_edge.specs.Told.{Told}
use Rattle.ice_edge.specs.Taken.{Taken}
use Rattle.ice_journal.specs.Journal.{bytes_of}
use Rattle.ice_journal.specs.Plain.{in_version_2}
use Rattle.ice_journal_laws.specs.Answers.{OfJournal}
use Rattle.ice_migrate.specs.Packing.{PutsPacked}
use Rattle.ice_command_parts.specs.Call.{journal_limit}
use Rattle.ice_commands.specs.MigrateServed.{MigrateAnswers}
use Rattle.ice_command_parts.specs.Parts.{AreFetched, Serves}
use Rattle.ice_command_parts.proofs.Parts.{told_in_call}
use Rattle.ice_command_parts.proofs.Writing.{put_said}

-- the journal is put
pub journal_serves : (before after : Told) (file bytes : List ℕ) (put : Result (Unit {0}) SinkFault) (result : Status) (old new : Taken) → AreFetched before file journal_limit bytes
    → OfJournal bytes (λ journal. PutsPacked journal put old new) → MatchResult put (λ done. result ≡ Done) (λ fault. result ≡ WriteFault)
    → Serves (λ call. MigrateAnswers call file) before after old new result
journal_serves before after file bytes put result old new told (journal, is, puts) ended = (
  bytes_of (in_version_2 journal),
  Done,
  λ call part text. (bytes, (journal, is, (puts.migrated, text)), told_in_call call before after file journal_limit (λ other. other ≡ bytes) part told),
  put_said put (bytes_of (in_version_2 journal)) Done result old new puts.is_put ended,
)
