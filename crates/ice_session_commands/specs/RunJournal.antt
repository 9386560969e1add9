-- The journal that `run` writes, as far as it comes.
use Rattle.std.specs.Prelude.{ℕ, ◌+◌, ◌≡◌, List, [], ◌∷◌, ◌++◌, length, drop, slice_get, Some}
use Rattle.ice_edge.specs.Told.{Told}
use Rattle.ice_edge.specs.declared.status.Status.{Status}
use Rattle.ice_edge.specs.declared.status.Status.TheVariants.{Input, ReadFault, NoMemory, StillOpen}
use Rattle.ice_defs.specs.FileFault.{FileFault}
use Rattle.ice_defs.specs.Exchange.{Exchange}
use Rattle.ice_defs.specs.Session.{Going}
use Rattle.ice_journal.specs.Records.{Record, open_end}
use Rattle.ice_journal.specs.Records as line
use Rattle.ice_round.specs.SessionAt.{SessionAt, RoundAt}
use Rattle.ice_session_laws.specs.Running.{IsRunning, IsInRound}
use Rattle.ice_session_laws.specs.Written.{round_records}
use Rattle.ice_command_parts.specs.Call.{Call, FaultRose, file_limit, IsRefused}
use Rattle.ice_command_parts.specs.Files.{IsRoundFault}
use Rattle.ice_command_parts.specs.Parts.{HasPart}
use Rattle.ice_session_commands.specs.Rounds.{BeginsRound, submissions_of, AreRoundsOf}
use Rattle.ice_session_commands.specs.SessionEnds.{EndsSettling}

module _ (call : Call) (files : List (List ℕ)) where
  -- the session runs behind settlements whose rounds are the bids of the first files
  pub record HasRun (going : List Going) (s : SessionAt) : Type 0 where
    pub running : IsRunning going s
    pub rounds : AreRoundsOf call files going

  -- the next settlement opened a round, to which no submission came yet
  pub record HasOpened (going : List Going) (s : SessionAt) (last : Going) (r : RoundAt) : Type 0 where
    pub in_round : IsInRound going s last r
    pub none : last.judged ≡ []
    pub rounds : AreRoundsOf call files going

  -- it ends in a settlement; nothing stopped so far in a round; or a round has no file, or one that
  -- is refused or can't be read
  pub data IsRunJournal : Exchange → List Record → Status → Type 0 where
    settles : (going : List Going) (s : SessionAt) {journal : List Record} {status : Status} → HasRun going s
        → EndsSettling going s journal status → IsRunJournal s.exchange journal status
    in_round : (going : List Going) (s : SessionAt) (last : Going) (r : RoundAt) → IsInRound going s last r → AreRoundsOf call files going
        → BeginsRound call (drop (length going) files) (submissions_of last)
        → IsRunJournal s.exchange (round_records s going last) NoMemory
    stays_open : (going : List Going) (s : SessionAt) (last : Going) (r : RoundAt) → HasOpened going s last r → length going ≡ length files
        → IsRunJournal s.exchange (round_records s going last ++ line.end open_end ∷ []) StillOpen
    refuses : (going : List Going) (s : SessionAt) (last : Going) (r : RoundAt) (file : List ℕ) (fault : FileFault)
        → HasOpened going s last r
        → slice_get files (length going) ≡ Some file
        → IsRefused call file file_limit IsRoundFault fault
        → IsRunJournal s.exchange (round_records s going last ++ line.refused (length going + 2) fault.number fault.place ∷ []) Input
    fails_to_read : (going : List Going) (s : SessionAt) (last : Going) (r : RoundAt) (file : List ℕ) → HasOpened going s last r
        → slice_get files (length going) ≡ Some file
        → FaultRose call file → IsRunJournal s.exchange (round_records s going last ++ line.unread (length going + 2) ∷ []) ReadFault

-- and so it is in every call that has this part
abbrev pub RunsTo : Exchange → List (List ℕ) → Told → Told → List Record → Status → Type 0
RunsTo ex files before after journal status = (call : Call) → HasPart call before after → IsRunJournal call files ex journal status
