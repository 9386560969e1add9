-- Why a command writes nothing of a journal.
use Rattle.std.specs.Prelude.{ℕ, List}
use Rattle.ice_edge.specs.Told.{Told}
use Rattle.ice_edge.specs.declared.status.Status.{Status}
use Rattle.ice_edge.specs.declared.status.Status.TheVariants.{No}
use Rattle.ice_defs.specs.FileFault.{FileFault}
use Rattle.ice_reading.specs.declared.end.JournalEnd.{JournalEnd}
use Rattle.ice_reading.specs.declared.end.JournalEnd.TheVariants.{FailsTest}
use Rattle.ice_commands.specs.declared.unwritten.Unwritten.{Unwritten}
use Rattle.ice_commands.specs.declared.unwritten.Unwritten.TheVariants.{Fails, Refused}
use Rattle.ice_command_parts.specs.Call.{journal_limit}
use Rattle.ice_command_parts.specs.Parts.{AreFetched}
use Rattle.ice_commands.specs.Output.{no_line}
use Rattle.ice_command_parts.specs.Refusals.{refusal_text, refusal_status, IsFaultOf, Refuses}

-- the line that says why
abbrev pub unwritten_text : Unwritten → List ℕ
unwritten_text (Fails line rule) = no_line (record { line = line; rule = rule })
unwritten_text (Refused refusal) = refusal_text refusal

-- the status that goes with it
abbrev pub unwritten_status : Unwritten → Status
unwritten_status (Fails line rule) = No
unwritten_status (Refused refusal) = refusal_status refusal

-- the bytes of the first file fail a test, by what is said of such bytes, or have such a fault; or
-- there is no memory
abbrev pub IsUnwrittenOf : (List ℕ → JournalEnd → Type 0) → (List ℕ → FileFault → Type 0) → List ℕ → Unwritten → Type 0
IsUnwrittenOf EndsSo HasFault bytes (Fails line rule) = EndsSo bytes (FailsTest line rule)
IsUnwrittenOf EndsSo HasFault bytes (Refused refusal) = IsFaultOf 1 (HasFault bytes) refusal

-- the file of this name is such
abbrev pub IsUnwritten : (List ℕ → JournalEnd → Type 0) → (List ℕ → FileFault → Type 0) → List ℕ → Told → Told → Unwritten → Type 0
IsUnwritten EndsSo HasFault name before after (Fails line rule) =
    (bytes : List ℕ) × EndsSo bytes (FailsTest line rule) × AreFetched before name journal_limit bytes
IsUnwritten EndsSo HasFault name before after (Refused refusal) = Refuses 1 name journal_limit HasFault before after refusal
