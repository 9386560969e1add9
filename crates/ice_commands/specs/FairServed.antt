-- What `fair` writes at each status: fair prices of a closed session, or why there are none.
use Rattle.std.specs.Prelude.{ℕ, ◌≡◌, List, Result, Ok, Err}
use Rattle.ice_edge.specs.declared.status.Status.{Status}
use Rattle.ice_edge.specs.declared.status.Status.TheVariants.{Done, No, Limit}
use Rattle.ice_defs.specs.FileFault.{FileFault}
use Rattle.ice_frac.specs.Lowest.{IsLowest}
use Rattle.ice_journal.specs.Journal.{bytes_of}
use Rattle.ice_journal_laws.specs.Checks.{Failure}
use Rattle.ice_fair.specs.Lasts.{LastTrade}
use Rattle.ice_fair.specs.Found.{IsFairFound}
use Rattle.ice_fair.specs.Ends.{IsFairEnd}
use Rattle.ice_fair.specs.declared.answer.Fair.{Fair}
use Rattle.ice_fair.specs.declared.ends.FairEnd.{FairEnd}
use Rattle.ice_fair.specs.declared.ends.FairEnd.TheVariants as fair_end
use Rattle.ice_reading.specs.declared.end.JournalEnd.{JournalEnd}
use Rattle.ice_reading.specs.declared.end.JournalEnd.TheVariants.{FailsTest}
use Rattle.ice_last.specs.Lasts.{LastsBytes}
use Rattle.ice_write_session.specs.Records.{limit_records}
use Rattle.ice_write_fair.specs.Lines.{fair_lines, fair_limit_lines}
use Rattle.ice_command_parts.specs.Call.{Call, journal_limit, OfFile}
use Rattle.ice_commands.specs.Output.{no_line}
use Rattle.ice_commands.specs.Ends.{IsJournalFault, RefusesFile}

-- why bytes have no last settlement
abbrev pub HasNoLast : List ℕ → JournalEnd → Type 0
HasNoLast bytes end = LastsBytes bytes (Err end)

abbrev pub IsFairFault : List ℕ → FileFault → Type 0
IsFairFault bytes fault = (end : JournalEnd) × HasNoLast bytes end × IsJournalFault end fault

-- this is the last settlement in the bytes of the file, which are those that are told
abbrev pub HasLast : Call → List ℕ → Result LastTrade JournalEnd → Type 0
HasLast call file found = (bytes : List ℕ) × LastsBytes bytes found × OfFile call file journal_limit (λ told. told ≡ bytes)

-- the text says fair prices, and their distance in lowest terms
abbrev pub SaysFair : LastTrade → List ℕ → Type 0
SaysFair last text = (f : Fair) × IsFairFound last f × IsLowest f.distance × (text ≡ fair_lines f)

abbrev pub IsLimitText : FairEnd → List ℕ → Type 0
IsLimitText (fair_end.Price limit) text = text ≡ bytes_of (limit_records limit)
IsLimitText (fair_end.Limit limit) text = text ≡ fair_limit_lines limit
IsLimitText fair_end.NoMemory text = ⊥

-- the text says the limit at which the search for them ends
abbrev pub SaysLimit : LastTrade → List ℕ → Type 0
SaysLimit last text = (end : FairEnd) × IsFairEnd last end × IsLimitText end text

abbrev pub FairAnswers : Call → List ℕ → Status → Type 0
FairAnswers call file Done = (last : LastTrade) × HasLast call file (Ok last) × SaysFair last call.text
FairAnswers call file No = (failure : Failure) × HasLast call file (Err (FailsTest failure.line failure.rule))
    × (call.text ≡ no_line failure)
FairAnswers call file Limit = (last : LastTrade) × HasLast call file (Ok last) × SaysLimit last call.text
FairAnswers call file other = RefusesFile call file IsFairFault other
