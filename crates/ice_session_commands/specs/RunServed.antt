-- What `run` writes at each status.
use Rattle.std.specs.Prelude.{ℕ, suc, ◌+◌, ◌≡◌, List, [], ◌∷◌, ◌++◌, length, slice_get, Some, Ok}
use Rattle.ice_edge.specs.declared.status.Status.{Status}
use Rattle.ice_edge.specs.declared.status.Status.TheVariants.{Done, Input, Spent, Limit, ReadFault, NoMemory, StillOpen}
use Rattle.ice_defs.specs.FileFault.{FileFault}
use Rattle.ice_defs.specs.Session.{Session}
use Rattle.ice_headline_laws.specs.Right.{IsRight}
use Rattle.ice_headline_laws.specs.Headline.{Headline}
use Rattle.ice_journal.specs.Records.{Record, session_kind}
use Rattle.ice_journal.specs.Records as line
use Rattle.ice_journal.specs.Journal.{bytes_of, IsJournal}
use Rattle.ice_journal_laws.specs.Checks.{Checks}
use Rattle.ice_journal_laws.specs.Written.{session_records}
use Rattle.ice_journal_laws.specs.Theorems.{Says}
use Rattle.ice_journal_laws.specs.Stops.{IsSpent}
use Rattle.ice_journal_laws.specs.SoFar.{IsUnstopped}
use Rattle.ice_session_laws.specs.Stops.{IsLimited, OpenSession, open_records, IsRightOpen}
use Rattle.ice_session_laws.specs.Written.{HasGapAnswer, HasWholeGroups}
use Rattle.ice_session_laws.specs.Branches.{enough_for_session}
use Rattle.ice_command_parts.specs.Call.{Call, FaultRose, file_limit, OfFile, IsRefused}
use Rattle.ice_command_parts.specs.Files.{IsExchangeOf, IsExchangeFault, IsRoundFault}
use Rattle.ice_command_parts.specs.Lines.{refused_line, unread_line}
use Rattle.ice_command_parts.specs.Journals.{HasFewerThan}
use Rattle.ice_session_commands.specs.Rounds.{IsRunSoFar, AreRoundsOf, HasRounds, rounds_in}

-- the headline of a run: what it wrote is a closed journal of the exchange of
-- the first file and of all bids of the round files, and it is right
pub record RunCloses (call : Call) (exchange : List ℕ) (rounds : List (List ℕ)) : Type 0 where
  pub journal : List Record
  pub session : Session
  pub written : IsJournal call.text journal
  pub says : Says journal (session_records session)
  pub so_far : IsRunSoFar call exchange rounds session_kind journal
  pub exchange_is : OfFile call exchange file_limit (λ bytes. IsExchangeOf bytes (Ok session.exchange))
  pub rounds_are : AreRoundsOf call rounds session.going
  pub right : IsRight session
  pub checks : Checks journal
  pub headline : Headline session

-- the exchange file, or the round file that stands next, is refused
pub data RunRefused (call : Call) (exchange : List ℕ) (rounds : List (List ℕ)) : Type 0 where
  at_start : (fault : FileFault) → IsRefused call exchange file_limit IsExchangeFault fault → call.text ≡ refused_line 1 fault
      → RunRefused call exchange rounds
  in_round : (before : List Record) (number : ℕ) (file : List ℕ) (fault : FileFault)
      → length (rounds_in before) ≡ suc number → slice_get rounds number ≡ Some file → IsRefused call file file_limit IsRoundFault fault
      → IsRunSoFar call exchange rounds session_kind (before ++ line.refused (number + 2) fault.number fault.place ∷ [])
      → call.text ≡ bytes_of (before ++ line.refused (number + 2) fault.number fault.place ∷ []) → RunRefused call exchange rounds

-- or it can't be read, and the count of that rose
pub data RunUnread (call : Call) (exchange : List ℕ) (rounds : List (List ℕ)) : Type 0 where
  at_start : FaultRose call exchange → call.text ≡ unread_line 1 → RunUnread call exchange rounds
  in_round : (before : List Record) (number : ℕ) (file : List ℕ)
      → length (rounds_in before) ≡ suc number → slice_get rounds number ≡ Some file → FaultRose call file
      → IsRunSoFar call exchange rounds session_kind (before ++ line.unread (number + 2) ∷ [])
      → call.text ≡ bytes_of (before ++ line.unread (number + 2) ∷ []) → RunUnread call exchange rounds

-- all round files were judged, and the last settlement goes on
pub record RunStaysOpen (call : Call) (exchange : List ℕ) (rounds : List (List ℕ)) : Type 0 where
  pub journal : List Record
  pub session : OpenSession
  pub written : IsJournal call.text journal
  pub says : Says journal (open_records session)
  pub so_far : IsRunSoFar call exchange rounds session_kind journal
  pub all_rounds : length session.going ≡ suc (length rounds)
  pub right : IsRightOpen session

-- whole lines: nothing, or its journal as far as it goes, which ends early and without a stop, and
-- whose groups are whole
pub data IsRunText (call : Call) (exchange : List ℕ) (rounds : List (List ℕ)) : List ℕ → Type 0 where
  nothing : IsRunText call exchange rounds []
  of_journal : {journal : List Record} (run : IsRunSoFar call exchange rounds session_kind journal) → IsUnstopped run.so_far.end
      → HasWholeGroups journal → IsRunText call exchange rounds (bytes_of journal)

-- a search was spent, of fewer branches than would be enough; `gap` has a gap for the journal
pub record RunSpends (call : Call) (exchange : List ℕ) (rounds : List (List ℕ)) : Type 0 where
  pub journal : List Record
  pub written : IsJournal call.text journal
  pub so_far : IsRunSoFar call exchange rounds session_kind journal
  pub spent : IsSpent session_kind journal
  pub gap : HasGapAnswer journal
  pub few : HasFewerThan call exchange enough_for_session

-- a pricing ended at a limit, of a settlement that a round was to follow
pub record RunIsLimited (call : Call) (exchange : List ℕ) (rounds : List (List ℕ)) : Type 0 where
  pub journal : List Record
  pub written : IsJournal call.text journal
  pub so_far : IsRunSoFar call exchange rounds session_kind journal
  pub limited : IsLimited journal
  pub allows_rounds : HasRounds call exchange

abbrev pub RunAnswers : Call → List ℕ → List (List ℕ) → Status → Type 0
RunAnswers call exchange rounds Done = RunCloses call exchange rounds
RunAnswers call exchange rounds Input = RunRefused call exchange rounds
RunAnswers call exchange rounds Spent = RunSpends call exchange rounds
RunAnswers call exchange rounds Limit = RunIsLimited call exchange rounds
RunAnswers call exchange rounds ReadFault = RunUnread call exchange rounds
RunAnswers call exchange rounds NoMemory = IsRunText call exchange rounds call.text
RunAnswers call exchange rounds StillOpen = RunStaysOpen call exchange rounds
RunAnswers call exchange rounds other = ⊥
