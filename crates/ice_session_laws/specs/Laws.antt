-- Laws of sessions that are run, as statements.
use Rattle.std.specs.Prelude.{◌≤◌, ◌≡◌, List, [], ◌∷◌, ◌++◌, length, Option, Some}
use Rattle.std.specs.List.{AllByRecursion}
use Rattle.ice_defs.specs.declared.Verdict.{Verdict}
use Rattle.ice_defs.specs.Round.{Submission, Judged, IsNextVerdict}
use Rattle.ice_defs.specs.Exchange.{Exchange, exact_of, opening_bounds}
use Rattle.ice_defs.specs.Lawful.{IsExchange}
use Rattle.ice_defs.specs.Session.{Going}
use Rattle.ice_terms.specs.Terms.{ArePriceTerms}
use Rattle.ice_search.specs.Results.{proved_found, proved_spent}
use Rattle.ice_search.specs.declared.results.Found.{Found}
use Rattle.ice_search.specs.declared.results.Spent.{Spent}
use Rattle.ice_regret.specs.declared.lead.Regret.{Regret}
use Rattle.ice_price.specs.declared.ends.PriceLimit.{PriceLimit}
use Rattle.ice_vickrey.specs.declared.marginal.Marginal.{Marginal}
use Rattle.ice_journal.specs.Records.{Record, version_2, session_kind, open_end}
use Rattle.ice_journal.specs.Records as line
use Rattle.ice_journal.specs.Ranges.{IsRecord, IsVerdictRecord}
use Rattle.ice_journal_laws.specs.Written.{judged_records}
use Rattle.ice_journal_laws.specs.Showing.{group_records}
use Rattle.ice_journal_laws.specs.SoFar.{IsSoFar}
use Rattle.ice_journal_laws.specs.Positions.{Position, before_provisional, position_records}
use Rattle.ice_verdicts.specs.Judges.{Round, bidders_in, IsVerdictIn, IsAfter}
use Rattle.ice_round.specs.SessionAt.{SessionAt, RoundAt, session_after}
use Rattle.ice_settled.specs.Shown.{settlement_of, going_of}
use Rattle.ice_round.specs.Shown.{IsClosing, IsOpening}
use Rattle.ice_round.specs.Ends.{IsHaltOf, IsSpentAt, IsLimitAt}
use Rattle.ice_settled.specs.declared.settled.Closing.{Closing}
use Rattle.ice_settled.specs.declared.settled.Opening.{Opening}
use Rattle.ice_settled.specs.declared.settled.Halt.{Halt}
use Rattle.ice_write_session.specs.Records.{opening_records, closing_records, spent_records, limit_records}
use Rattle.ice_write_session.specs.Writable.{IsWritable, IsWritableOpening, IsWritableClosing, IsWritableHalt, IsWritableLimit}
use Rattle.ice_session_laws.specs.Running.{IsRunning, IsInRound}
use Rattle.ice_session_laws.specs.Stops.{ComesTo, StopsRound}
use Rattle.ice_session_laws.specs.Written.{run_records, round_records, closed_session, IsUnended, IsClosedJournal, IsOpenJournal}
use Rattle.ice_session_laws.specs.Written.{IsSpentJournal, IsLimitedJournal}

-- ---- a session runs

abbrev pub RunBegins : Type 0
RunBegins = (ex : Exchange) (s : SessionAt) → IsExchange ex
    → s ≡ record { exchange = ex; bounds = opening_bounds ex; number = 0; branches = ex.settings.branches } → IsRunning [] s

abbrev pub RoundBegins : Type 0
RoundBegins = (going : List Going) (s : SessionAt) (r : RoundAt) (o : Opening) → IsRunning going s → IsOpening s r o
    → AllByRecursion IsRecord (opening_records s.exchange o) → IsInRound going s (going_of o []) r

abbrev pub RoundGoesOn : Type 0
RoundGoesOn =
    (going : List Going) (s : SessionAt) (last : Going) (r : RoundAt) (round : Round) (j : Judged) → IsInRound going s last r
    → IsNextVerdict r.round.prices r.exchange.settings.improve (bidders_in r.exchange r.round) last.judged j.submission j.verdict
    → AllByRecursion IsRecord (judged_records j) → round.bounds ≡ r.round.bounds → round.sets ≡ r.round.sets → round.prices ≡ r.round.prices
    → IsAfter r.exchange (last.judged ++ j ∷ []) round
    → IsInRound going s (record last { judged = last.judged ++ j ∷ [] }) (record r { round = round })

abbrev pub RoundEnds : Type 0
RoundEnds = (going : List Going) (s : SessionAt) (last : Going) (r : RoundAt) → IsInRound going s last r
    → IsRunning (going ++ last ∷ []) (session_after r)

-- ---- its journal

abbrev pub RunIsUnended : Type 0
RunIsUnended = (going : List Going) (s : SessionAt) → IsRunning going s → IsUnended (run_records s.exchange going)

abbrev pub RoundIsUnended : Type 0
RoundIsUnended = (going : List Going) (s : SessionAt) (last : Going) (r : RoundAt) → IsInRound going s last r
    → IsUnended (round_records s going last)

-- a settlement that closes makes it whole
abbrev pub RunCloses : Type 0
RunCloses = (going : List Going) (s : SessionAt) → IsRunning going s → (c : Closing) → IsClosing s c
    → AllByRecursion IsRecord (closing_records c)
    → IsClosedJournal (run_records s.exchange going ++ closing_records c) (closed_session going s c)

-- a round that no submission has come to may stop
abbrev pub RoundStops : Type 0
RoundStops = (going : List Going) (s : SessionAt) (last : Going) (r : RoundAt) → IsInRound going s last r → last.judged ≡ [] → (x : Record)
    → StopsRound s.number x → IsRecord x
    → IsSoFar session_kind (round_records s going last ++ x ∷ [])

abbrev pub RoundStaysOpen : Type 0
RoundStaysOpen = (going : List Going) (s : SessionAt) (last : Going) (r : RoundAt) → IsInRound going s last r → last.judged ≡ []
    → IsOpenJournal (round_records s going last ++ line.end open_end ∷ []) (record { exchange = s.exchange; going = going ++ last ∷ [] })

-- a search that is spent stops it
abbrev pub RunSpends : Type 0
RunSpends =
    (going : List Going) (s : SessionAt) (best : Option Found) (regret : Option Regret) (provisional : Option Found) (ms : List Marginal)
    (spent : Spent) → IsRunning going s → IsSpentAt s best regret provisional ms spent
    → (at : Position) × ComesTo best regret provisional ms at
    × (AllByRecursion IsRecord (position_records version_2 (length (exact_of s.exchange)) s.number at)
    → AllByRecursion IsRecord (spent_records s.exchange spent)
    → IsSpentJournal (run_records s.exchange going ++ position_records version_2 (length (exact_of s.exchange)) s.number at
    ++ spent_records s.exchange spent))

-- ---- what is found may be written

-- a verdict on a submission of at most 200 lower values
abbrev pub VerdictMayBeWritten : Type 0
VerdictMayBeWritten = (ex : Exchange) (r : Round) (s : Submission) (verdict : Verdict) → length s.lo ≤ 200 → IsVerdictIn ex r s verdict
    → IsVerdictRecord verdict

abbrev pub OpeningMayBeWritten : Type 0
OpeningMayBeWritten = (going : List Going) (s : SessionAt) (r : RoundAt) (o : Opening) → IsRunning going s → IsOpening s r o
    → ArePriceTerms o.pricing.prices → IsWritableOpening (length (exact_of s.exchange)) o

abbrev pub ClosingMayBeWritten : Type 0
ClosingMayBeWritten = (going : List Going) (s : SessionAt) (c : Closing) → IsRunning going s → IsClosing s c → IsWritableClosing c

abbrev pub SpentMayBeWritten : Type 0
SpentMayBeWritten = (going : List Going) (s : SessionAt) (h : Halt) (spent : Spent) → IsRunning going s → IsHaltOf s h
    → IsSpentAt s h.best h.regret h.provisional h.marginals.items spent
    → IsWritableHalt h × IsWritable (length (exact_of s.exchange)) (proved_spent spent)

abbrev pub LimitMayBeWritten : Type 0
LimitMayBeWritten = (going : List Going) (s : SessionAt) (h : Halt) (limit : PriceLimit) → IsRunning going s → IsHaltOf s h
    → IsLimitAt s h.best h.regret h.provisional h.marginals.items limit
    → IsWritableHalt h × IsWritableLimit limit

-- ---- a limit of the pricing stops it

-- what was found before the limit
pub record PricesSought (best : Option Found) (regret : Option Regret) (provisional : Option Found) (ms : List Marginal) : Type 0 where
  pub final : Found
  pub amount : Regret
  pub offered : Found
  pub best_is : best ≡ Some final
  pub regret_is : regret ≡ Some amount
  pub provisional_is : provisional ≡ Some offered
  pub none : ms ≡ []

-- the groups behind which the limit stands
abbrev pub sought_records : SessionAt → Found → Regret → Found → List Record
sought_records s final amount offered =
    position_records version_2 (length (exact_of s.exchange)) s.number (before_provisional (settlement_of final amount))
    ++ group_records version_2 (length (exact_of s.exchange)) (line.provisional offered.value) (proved_found offered)

abbrev pub RunIsLimited : Type 0
RunIsLimited =
    (going : List Going) (s : SessionAt) (best : Option Found) (regret : Option Regret) (provisional : Option Found) (ms : List Marginal)
    (limit : PriceLimit) → IsRunning going s → IsLimitAt s best regret provisional ms limit
    → (sought : PricesSought best regret provisional ms)
    × (AllByRecursion IsRecord (sought_records s sought.final sought.amount sought.offered) → AllByRecursion IsRecord (limit_records limit)
    → IsLimitedJournal (run_records s.exchange going ++ sought_records s sought.final sought.amount sought.offered ++ limit_records limit))
