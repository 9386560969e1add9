-- What `regret` writes at each status.
use Rattle.std.specs.Prelude.{ℕ, ◌≡◌, List, [], Some, Ok}
use Rattle.ice_edge.specs.declared.status.Status.{Status}
use Rattle.ice_edge.specs.declared.status.Status.TheVariants.{Done, Input, Spent, ReadFault, NoMemory}
use Rattle.ice_defs.specs.FileFault.{FileFault}
use Rattle.ice_defs.specs.Session.{Regretted}
use Rattle.ice_journal.specs.Records.{Record, regret_kind}
use Rattle.ice_journal.specs.Journal.{bytes_of, IsJournal}
use Rattle.ice_journal_laws.specs.declared.rule.Rule.TheVariants as rule
use Rattle.ice_journal_laws.specs.Checks.{FirstFailure, Checks}
use Rattle.ice_journal_laws.specs.Written.{regretted_records}
use Rattle.ice_journal_laws.specs.Theorems.{Says, IsRightRegret}
use Rattle.ice_journal_laws.specs.Stops.{IsSpent}
use Rattle.ice_journal_laws.specs.SoFar.{IsUnstopped, IsSoFar}
use Rattle.ice_session_laws.specs.Branches.{enough_for_regret}
use Rattle.ice_session_laws.specs.Written.{HasGapAnswer}
use Rattle.ice_command_parts.specs.Call.{Call, FaultRose, file_limit, OfFile, IsRefused}
use Rattle.ice_command_parts.specs.Files.{IsExchangeOf, IsExchangeFault}
use Rattle.ice_command_parts.specs.Lines.{refused_line, unread_line}
use Rattle.ice_command_parts.specs.Journals.{HasExchangeOf, HasFewerThan}

-- a journal of kind regret as far as it is written, with the exchange of the file
pub record IsRegretSoFar (call : Call) (exchange : List ℕ) (journal : List Record) : Type 0 where
  pub so_far : IsSoFar regret_kind journal
  pub exchange_is : HasExchangeOf call exchange regret_kind journal

-- a whole one: it passes every test, and says the exact regret of the file's exchange
pub record RegretEnds (call : Call) (exchange : List ℕ) : Type 0 where
  pub journal : List Record
  pub said : Regretted
  pub written : IsJournal call.text journal
  pub says : Says journal (regretted_records said)
  pub so_far : IsRegretSoFar call exchange journal
  pub exchange_is : OfFile call exchange file_limit (λ bytes. IsExchangeOf bytes (Ok said.exchange))
  pub right : IsRightRegret said
  pub checks : Checks journal

-- one that stops at a search whose branches are spent: that it stops is
-- its first failed test, `gap` has a gap for it, and more branches would have been enough
pub record RegretSpends (call : Call) (exchange : List ℕ) : Type 0 where
  pub journal : List Record
  pub written : IsJournal call.text journal
  pub so_far : IsRegretSoFar call exchange journal
  pub stop : (place : ℕ) × FirstFailure journal (Some (record { line = place; rule = rule.Closed }))
  pub spent : IsSpent regret_kind journal
  pub gap : HasGapAnswer journal
  pub few : HasFewerThan call exchange enough_for_regret

-- whole lines: nothing, or its journal as far as it goes, which ends early and without a stop
pub data IsRegretText (call : Call) (exchange : List ℕ) : List ℕ → Type 0 where
  nothing : IsRegretText call exchange []
  of_journal : {journal : List Record} (regret : IsRegretSoFar call exchange journal) → IsUnstopped regret.so_far.end
      → IsRegretText call exchange (bytes_of journal)

abbrev pub RegretAnswers : Call → List ℕ → Status → Type 0
RegretAnswers call exchange Done = RegretEnds call exchange
RegretAnswers call exchange Input = (fault : FileFault) × IsRefused call exchange file_limit IsExchangeFault fault
    × (call.text ≡ refused_line 1 fault)
RegretAnswers call exchange Spent = RegretSpends call exchange
RegretAnswers call exchange ReadFault = FaultRose call exchange × (call.text ≡ unread_line 1)
RegretAnswers call exchange NoMemory = IsRegretText call exchange call.text
RegretAnswers call exchange other = ⊥
