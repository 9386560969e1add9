-- What `statement` writes at each status: what the
-- journal says to the named bidder, or why nothing.
use Rattle.std.specs.Prelude.{ℕ, ◌≡◌, List, Err}
use Rattle.ice_edge.specs.declared.status.Status.{Status}
use Rattle.ice_edge.specs.declared.status.Status.TheVariants.{Done, No}
use Rattle.ice_defs.specs.FileFault.{FileFault}
use Rattle.ice_journal_laws.specs.Checks.{Failure}
use Rattle.ice_reading.specs.declared.end.JournalEnd.{JournalEnd}
use Rattle.ice_statement.specs.declared.judging.StatementEnd.{StatementEnd}
use Rattle.ice_statement.specs.declared.judging.StatementEnd.TheVariants.{Journal, NoBidder}
use Rattle.ice_statement.specs.Judging.{IsFailing, MayState}
use Rattle.ice_statement_laws.specs.Statement.{Own}
use Rattle.ice_statement_laws.specs.Texts.{States}
use Rattle.ice_command_parts.specs.Call.{Call, journal_limit, OfFile}
use Rattle.ice_command_parts.specs.Refusals.{no_bidder}
use Rattle.ice_commands.specs.MigrateServed.{HasJournal}
use Rattle.ice_commands.specs.Output.{no_line}
use Rattle.ice_commands.specs.Ends.{IsJournalFault, RefusesFile}

-- the fault of bytes that state nothing
abbrev pub IsStatementEnd : StatementEnd → FileFault → Type 0
IsStatementEnd (Journal end) fault = IsJournalFault end fault
IsStatementEnd NoBidder fault = fault ≡ no_bidder

-- why bytes state nothing to whichever bidder
abbrev pub NotStated : List ℕ → List ℕ → JournalEnd → Type 0
NotStated name bytes end = MayState bytes name (Err (Journal end))

abbrev pub IsStatementFault : List ℕ → List ℕ → FileFault → Type 0
IsStatementFault name bytes fault = (end : StatementEnd) × MayState bytes name (Err end) × IsStatementEnd end fault

-- the text is the named bidder's statement of the bytes of the file, those that are told
abbrev pub HasStated : Call → List ℕ → List ℕ → List ℕ → Type 0
HasStated call file name text =
    (bytes : List ℕ) × ((own : Own) × States bytes name own text) × OfFile call file journal_limit (λ told. told ≡ bytes)

abbrev pub StatementAnswers : Call → List ℕ → List ℕ → Status → Type 0
StatementAnswers call file name Done = HasStated call file name call.text
StatementAnswers call file name No =
    (failure : Failure) × HasJournal call file (λ journal. IsFailing journal failure) × (call.text ≡ no_line failure)
StatementAnswers call file name other = RefusesFile call file (IsStatementFault name) other
