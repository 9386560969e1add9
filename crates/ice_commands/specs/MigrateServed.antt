-- What `migrate` writes at each status: the journal in version 2, or why there is none.
use Rattle.std.specs.Prelude.{ℕ, ◌≡◌, List, Err}
use Rattle.ice_edge.specs.declared.status.Status.{Status}
use Rattle.ice_edge.specs.declared.status.Status.TheVariants.{Done, No}
use Rattle.ice_defs.specs.FileFault.{FileFault}
use Rattle.ice_journal.specs.Records.{Record}
use Rattle.ice_journal.specs.Journal.{bytes_of}
use Rattle.ice_journal.specs.Plain.{in_version_2}
use Rattle.ice_journal_laws.specs.Checks.{Failure}
use Rattle.ice_journal_laws.specs.Answers.{OfJournal}
use Rattle.ice_reading.specs.declared.end.JournalEnd.{JournalEnd}
use Rattle.ice_migrate.specs.Migrating.{IsMigrated, IsFailing, Judges}
use Rattle.ice_command_parts.specs.Call.{Call, journal_limit, OfFile}
use Rattle.ice_commands.specs.Output.{no_line}
use Rattle.ice_commands.specs.Ends.{IsJournalFault, RefusesFile}

-- why bytes are not written in version 2
abbrev pub NotMigrated : List ℕ → JournalEnd → Type 0
NotMigrated bytes end = Judges bytes (Err end)

abbrev pub IsMigrateFault : List ℕ → FileFault → Type 0
IsMigrateFault bytes fault = (end : JournalEnd) × NotMigrated bytes end × IsJournalFault end fault

-- the bytes of the file, which are those that are told, are a journal of which this holds
abbrev pub HasJournal : Call → List ℕ → (List Record → Type 0) → Type 0
HasJournal call file P = (bytes : List ℕ) × OfJournal bytes P × OfFile call file journal_limit (λ told. told ≡ bytes)

-- from what is written the journal that was read comes back: so `IsMigrated` says
abbrev pub MigrateAnswers : Call → List ℕ → Status → Type 0
MigrateAnswers call file Done = HasJournal call file (λ journal. IsMigrated journal × (call.text ≡ bytes_of (in_version_2 journal)))
MigrateAnswers call file No = (failure : Failure) × HasJournal call file (λ journal. IsFailing journal failure)
    × (call.text ≡ no_line failure)
MigrateAnswers call file other = RefusesFile call file IsMigrateFault other
