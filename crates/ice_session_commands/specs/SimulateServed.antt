-- What `simulate` writes at each status.
use Rattle.std.specs.Prelude.{ℕ, ◌≡◌, List, [], drop, Ok, ℤ}
use Rattle.std.specs.List.{AllByRecursion}
use Rattle.ice_edge.specs.declared.status.Status.{Status}
use Rattle.ice_edge.specs.declared.status.Status.TheVariants.{Done, Input, Spent, Limit, ReadFault, NoMemory}
use Rattle.ice_defs.specs.FileFault.{FileFault}
use Rattle.ice_defs.specs.Exchange.{Exchange, opening_bounds}
use Rattle.ice_defs.specs.Session.{Session}
use Rattle.ice_headline_laws.specs.Right.{IsRight}
use Rattle.ice_headline_laws.specs.Headline.{Headline}
use Rattle.ice_journal.specs.Records.{Record, version_2, session_kind}
use Rattle.ice_journal.specs.Journal.{bytes_of, IsJournal}
use Rattle.ice_journal_laws.specs.State.{begun}
use Rattle.ice_journal_laws.specs.Checks.{Checks}
use Rattle.ice_journal_laws.specs.Written.{session_records}
use Rattle.ice_journal_laws.specs.Theorems.{Says}
use Rattle.ice_journal_laws.specs.Stops.{IsSpent}
use Rattle.ice_journal_laws.specs.SoFar.{IsSoFar, IsUnstopped}
use Rattle.ice_session_laws.specs.Stops.{IsLimited}
use Rattle.ice_session_laws.specs.Written.{HasGapAnswer, HasWholeGroups}
use Rattle.ice_session_laws.specs.Branches.{enough_for_session}
use Rattle.ice_proxy.specs.Sessions.{IsProxySession, HoldThroughout, AreAccepted}
use Rattle.ice_proxy.specs.Laws.{NoTradeBeatsAtTruths}
use Rattle.ice_proxy_laws.specs.Journals.{SubmitsProxies}
use Rattle.ice_simulation.specs.TruthFile.{truth_lists}
use Rattle.ice_command_parts.specs.Call.{Call, file_limit, OfFile, IsRefused}
use Rattle.ice_command_parts.specs.Files.{IsExchangeOf, IsExchangeFault}
use Rattle.ice_command_parts.specs.Lines.{refused_line}
use Rattle.ice_command_parts.specs.Journals.{HasExchangeOf, HasFewerThan}
use Rattle.ice_command_parts.specs.Refusals.{IsOneUnread}
use Rattle.ice_session_commands.specs.Rounds.{HasRounds}
use Rattle.ice_session_commands.specs.TruthParts.{IsTruthFault, OfTruths}

-- the exchange file is judged before the file of true values is fetched
pub data SimulateRefused (call : Call) (exchange truths : List ℕ) : Type 0 where
  exchange_refused : (fault : FileFault) → IsRefused call exchange file_limit IsExchangeFault fault → call.text ≡ refused_line 1 fault
      → SimulateRefused call exchange truths
  truths_refused : (fault : FileFault) (ex : Exchange) → OfFile call exchange file_limit (λ bytes. IsExchangeOf bytes (Ok ex))
      → IsRefused call truths file_limit (IsTruthFault ex) fault → call.text ≡ refused_line 2 fault → SimulateRefused call exchange truths

-- what a simulation has written so far: its submissions are the bids of proxies
pub record IsSimulatedSoFar (call : Call) (exchange truths : List ℕ) (journal : List Record) : Type 0 where
  pub so_far : IsSoFar session_kind journal
  pub exchange_is : HasExchangeOf call exchange session_kind journal
  pub submissions : OfFile call exchange file_limit (λ bytes. (ex : Exchange) × IsExchangeOf bytes (Ok ex)
      × OfTruths call truths ex (λ bids. SubmitsProxies (begun version_2 session_kind) (truth_lists ex.bidders bids) (drop 1 journal)))

-- with these true values each bid is a proxy's, the bounds hold the truths at each settlement, and
-- no trade beats the final one by more than the regret
pub record IsProxied (session : Session) (truths : List (List ℤ)) : Type 0 where
  pub proxies : IsProxySession truths session
  pub hold : HoldThroughout session.exchange truths (opening_bounds session.exchange) session.going
  pub none_beats : NoTradeBeatsAtTruths session truths

-- a closed journal of the exchange: each bidder's proxy bids in every round, and is accepted
pub record SimulateCloses (call : Call) (exchange truths : List ℕ) : Type 0 where
  pub journal : List Record
  pub session : Session
  pub written : IsJournal call.text journal
  pub says : Says journal (session_records session)
  pub so_far : IsSimulatedSoFar call exchange truths journal
  pub exchange_is : OfFile call exchange file_limit (λ bytes. IsExchangeOf bytes (Ok session.exchange))
  pub truths_are : OfTruths call truths session.exchange (λ bids. IsProxied session (truth_lists session.exchange.bidders bids))
  pub accepted : AllByRecursion (λ g. AreAccepted g.judged) session.going
  pub right : IsRight session
  pub checks : Checks journal
  pub headline : Headline session

-- a search was spent, of fewer branches than would be enough; `gap` has a gap for the journal
pub record SimulateSpends (call : Call) (exchange truths : List ℕ) : Type 0 where
  pub journal : List Record
  pub written : IsJournal call.text journal
  pub so_far : IsSimulatedSoFar call exchange truths journal
  pub spent : IsSpent session_kind journal
  pub gap : HasGapAnswer journal
  pub few : HasFewerThan call exchange enough_for_session

-- a pricing ended at a limit, of a settlement that a round was to follow
pub record SimulateIsLimited (call : Call) (exchange truths : List ℕ) : Type 0 where
  pub journal : List Record
  pub written : IsJournal call.text journal
  pub so_far : IsSimulatedSoFar call exchange truths journal
  pub limited : IsLimited journal
  pub allows_rounds : HasRounds call exchange

-- whole lines: nothing, or its journal as far as it goes, which ends early and without a stop, and
-- whose groups are whole
pub data IsSimulatedText (call : Call) (exchange truths : List ℕ) : List ℕ → Type 0 where
  nothing : IsSimulatedText call exchange truths []
  of_journal : {journal : List Record} (simulated : IsSimulatedSoFar call exchange truths journal) → IsUnstopped simulated.so_far.end
      → HasWholeGroups journal → IsSimulatedText call exchange truths (bytes_of journal)

abbrev pub SimulateAnswers : Call → List ℕ → List ℕ → Status → Type 0
SimulateAnswers call exchange truths Done = SimulateCloses call exchange truths
SimulateAnswers call exchange truths Input = SimulateRefused call exchange truths
SimulateAnswers call exchange truths Spent = SimulateSpends call exchange truths
SimulateAnswers call exchange truths Limit = SimulateIsLimited call exchange truths
SimulateAnswers call exchange truths ReadFault = IsOneUnread call exchange truths
SimulateAnswers call exchange truths NoMemory = IsSimulatedText call exchange truths call.text
SimulateAnswers call exchange truths other = ⊥
