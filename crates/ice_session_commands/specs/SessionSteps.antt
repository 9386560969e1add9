-- What the steps of a session put, behind what was put before.
use Rattle.std.specs.Prelude.{ℕ, ◌≡◌, List, [], ◌++◌, length, take, Result, Ok, Err, OnOk}
use Rattle.std.specs.List.{flat_map}
use Rattle.ice_edge.specs.Puts.{Takes, IsPut}
use Rattle.ice_edge.specs.Told.{Told}
use Rattle.ice_edge.specs.declared.sink.SinkFault.{SinkFault}
use Rattle.ice_edge.specs.declared.status.Status.{Status}
use Rattle.ice_edge.specs.declared.status.Status.TheVariants.{WriteFault}
use Rattle.ice_edge.specs.Taken.{Taken}
use Rattle.ice_defs.specs.Round.{Submission, Judged}
use Rattle.ice_defs.specs.Exchange.{exact_of}
use Rattle.ice_defs.specs.Session.{Going}
use Rattle.ice_journal.specs.Records.{Record, version_2}
use Rattle.ice_journal.specs.Journal.{bytes_of}
use Rattle.ice_journal_laws.specs.Written.{judged_records}
use Rattle.ice_journal_laws.specs.ShowingSession.{going_in}
use Rattle.ice_round.specs.SessionAt.{SessionAt, RoundAt, session_after}
use Rattle.ice_round.specs.Settling.{SettlingAt}
use Rattle.ice_round.specs.declared.offer.Offer.{Offer}
use Rattle.ice_session_laws.specs.Running.{IsRunning, IsInRound}
use Rattle.ice_session_laws.specs.Written.{run_records, round_records}
use Rattle.ice_session_laws.specs.FoundLaws.{settling_records, offered_records}
use Rattle.ice_trial.specs.Rounds.{submissions_in, GoesOnBy}
use Rattle.ice_command_parts.specs.Call.{IsPrefix}
use Rattle.ice_command_parts.specs.Journals.{WritesBehind}
use Rattle.ice_session_commands.specs.declared.source.NoBids.{NoBids}
use Rattle.ice_session_commands.specs.declared.source.Source.{Source}
use Rattle.ice_session_commands.specs.SessionEnds.{EndsSettling}
use Rattle.ice_session_commands.specs.RunJournal.{RunsTo}
use Rattle.ice_session_commands.specs.NoBids.{stop_records, stop_status}
use Rattle.ice_session_commands.specs.Sources.{LeadsTo, AreHeld, IsLeft}

-- the first bids are judged, and put
pub record HaveJudged (before after : RoundAt) (bids : List Submission) (count : ℕ) (old new : Taken) : Type 0 where
  pub judged : List Judged
  pub bids_are : submissions_in judged ≡ take count bids
  pub goes_on : GoesOnBy before after judged
  pub takes : Takes (bytes_of (flat_map judged_records judged)) old new

-- the bids are judged and put, all of them unless the sink failed
pub record Judges (before after : RoundAt) (bids : List Submission) (put : Result (Unit {0}) SinkFault) (old new : Taken) : Type 0 where
  pub judged : List Judged
  pub front : IsPrefix (submissions_in judged) bids
  pub all : OnOk put (submissions_in judged ≡ bids)
  pub goes_on : GoesOnBy before after judged
  pub is_put : IsPut (bytes_of (flat_map judged_records judged)) put old new

-- the next settlement opened a round, and is put
abbrev pub OpensRound : SessionAt → RoundAt → Taken → Taken → Type 0
OpensRound s r old new =
    (going : List Going) → IsRunning going s
    → (last : Going) × IsInRound going s last r × (last.judged ≡ [])
    × Takes (bytes_of (going_in version_2 (length (exact_of s.exchange)) s.number last)) old new

-- the journal ends in this settlement
abbrev pub EndsHere : SessionAt → Taken → Taken → Status → Type 0
EndsHere s old new result =
    (going : List Going) → IsRunning going s → WritesBehind (run_records s.exchange going) (EndsSettling going s) old new result

-- a settlement has put its final sets with their regret, and the groups without the first bidders:
-- the rest is put, and the journal ends with it
abbrev pub EndsBehind : SettlingAt → Taken → Taken → Status → Type 0
EndsBehind x old new result =
    (going : List Going) → IsRunning going x.session
    → WritesBehind (run_records x.session.exchange going ++ settling_records x) (EndsSettling going x.session) old new result

-- or it has put its provisional sets too
abbrev pub EndsOffering : SettlingAt → Offer → Taken → Taken → Status → Type 0
EndsOffering x o old new result =
    (going : List Going) → IsRunning going x.session
    → WritesBehind (run_records x.session.exchange going ++ offered_records x o) (EndsSettling going x.session) old new result

-- the settlement, of which these records are put, opened a round, and the rest is put
abbrev pub OpensAfter : List Record → SessionAt → RoundAt → Taken → Taken → Type 0
OpensAfter front s r old new =
    (going : List Going) → IsRunning going s
    → (last : Going) × (rest : List Record) × IsInRound going s last r × (last.judged ≡ [])
    × (going_in version_2 (length (exact_of s.exchange)) s.number last ≡ front ++ rest) × Takes (bytes_of rest) old new

abbrev pub OpensBehind : SettlingAt → RoundAt → Taken → Taken → Type 0
OpensBehind x = OpensAfter (settling_records x) x.session

abbrev pub OpensOffering : SettlingAt → Offer → RoundAt → Taken → Taken → Type 0
OpensOffering x o = OpensAfter (offered_records x o) x.session

-- all bids are judged and put, and the session goes on behind the round
abbrev pub EndsRound : RoundAt → List Submission → SessionAt → Taken → Taken → Type 0
EndsRound r bids next old new = (after : RoundAt) × (next ≡ session_after after) × Judges r after bids (Ok tt) old new

-- the sink failed in the round
abbrev pub FailsInRound : RoundAt → List Submission → Taken → Taken → Status → Type 0
FailsInRound r bids old new result =
    (result ≡ WriteFault) × ((after : RoundAt) × (fault : SinkFault) × Judges r after bids (Err fault) old new)

-- no file is left for the round, or the next one isn't had, and so the journal ends in it
abbrev pub LacksFile : List (List ℕ) → RoundAt → Told → Told → NoBids → Type 0
LacksFile files r before after none =
    (going : List Going) (s : SessionAt) (last : Going) (done : List (List ℕ)) → IsInRound going s last r → last.judged ≡ []
    → length done ≡ length going → AreHeld before done going
    → RunsTo s.exchange (done ++ files) before after (round_records s going last ++ stop_records none) (stop_status none)

-- the source has no bids for the round, and so the journal ends in it
abbrev pub EndsInRound : Source → RoundAt → Told → Told → NoBids → Type 0
EndsInRound source r before after none =
    (whole : Source) (going : List Going) (s : SessionAt) (last : Going) → IsInRound going s last r → last.judged ≡ []
    → IsLeft before whole going s source
    → LeadsTo whole s.exchange before after (round_records s going last ++ stop_records none) (stop_status none)

-- the rest of the session is put, with the bids of what is left of its source
abbrev pub Plays : Source → SessionAt → Told → Told → Taken → Taken → Status → Type 0
Plays source s before after old new result =
    (whole : Source) (going : List Going) → IsRunning going s → IsLeft before whole going s source
    → WritesBehind (run_records s.exchange going) (LeadsTo whole s.exchange before after) old new result
