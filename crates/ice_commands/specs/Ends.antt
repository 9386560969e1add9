-- What is said of a file of which nothing else is said.
use Rattle.std.specs.Prelude.{ℕ, ◌≡◌, List, []}
use Rattle.ice_edge.specs.declared.status.Status.{Status}
use Rattle.ice_edge.specs.declared.status.Status.TheVariants.{Input, ReadFault, NoMemory}
use Rattle.ice_defs.specs.FileFault.{FileFault}
use Rattle.ice_journal_laws.specs.declared.answer.CheckEnd.{CheckEnd}
use Rattle.ice_journal_laws.specs.declared.answer.CheckEnd.TheVariants as ending
use Rattle.ice_reading.specs.declared.end.JournalEnd.{JournalEnd}
use Rattle.ice_reading.specs.declared.end.JournalEnd.TheVariants.{Unjudged, FailsTest}
use Rattle.ice_command_parts.specs.Call.{Call, FaultRose, journal_limit, IsRefused}
use Rattle.ice_command_parts.specs.Lines.{refused_line, unread_line}
use Rattle.ice_command_parts.specs.Refusals.{no_record, not_ended, other_kind, IsFaultOf}
use Rattle.ice_commands.specs.declared.unwritten.Unwritten.{Unwritten}
use Rattle.ice_commands.specs.declared.unwritten.Unwritten.TheVariants.{Fails, Refused}

-- the fault of bytes that have no answer; want of memory is no fault of theirs
abbrev pub IsEndFault : CheckEnd → FileFault → Type 0
IsEndFault (ending.Grammar line) fault = fault ≡ no_record line
IsEndFault (ending.Unended line) fault = fault ≡ not_ended line
IsEndFault ending.OtherKind fault = fault ≡ other_kind
IsEndFault ending.NoMemory fault = ⊥

-- nor is a failed test
abbrev pub IsJournalFault : JournalEnd → FileFault → Type 0
IsJournalFault (Unjudged end) fault = IsEndFault end fault
IsJournalFault (FailsTest line rule) fault = ⊥

-- why nothing is said of a journal, in the words of `Unwritten`
abbrev pub TellsEnd : JournalEnd → Unwritten → Type 0
TellsEnd end (Fails line rule) = end ≡ FailsTest line rule
TellsEnd end (Refused refusal) = IsFaultOf 1 (IsJournalFault end) refusal

-- what is written where the one file of a call is refused, or can't be read, or memory runs out
abbrev pub RefusesFile : Call → List ℕ → (List ℕ → FileFault → Type 0) → Status → Type 0
RefusesFile call file HasFault Input = (fault : FileFault) × IsRefused call file journal_limit HasFault fault
    × (call.text ≡ refused_line 1 fault)
RefusesFile call file HasFault ReadFault = FaultRose call file × (call.text ≡ unread_line 1)
RefusesFile call file HasFault NoMemory = call.text ≡ []
RefusesFile call file HasFault other = ⊥
