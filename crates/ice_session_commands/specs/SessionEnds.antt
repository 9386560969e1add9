-- How the journal of a session ends in a settlement.
use Rattle.std.specs.Prelude.{◌<◌, ◌≡◌, List, [], ◌++◌, length}
use Rattle.std.specs.List.{AllByRecursion}
use Rattle.ice_edge.specs.declared.status.Status.{Status}
use Rattle.ice_edge.specs.declared.status.Status.TheVariants.{Done, Spent, Limit, NoMemory}
use Rattle.ice_defs.specs.Exchange.{exact_of}
use Rattle.ice_defs.specs.Session.{Going}
use Rattle.ice_journal.specs.Records.{Record, version_2}
use Rattle.ice_journal.specs.Ranges.{IsRecord}
use Rattle.ice_journal_laws.specs.Positions.{Position, position_records}
use Rattle.ice_search.specs.declared.results.Found.{Found}
use Rattle.ice_search.specs.declared.results.Spent as results
use Rattle.ice_regret.specs.declared.lead.Regret.{Regret}
use Rattle.ice_price.specs.declared.ends.PriceLimit.{PriceLimit}
use Rattle.ice_round.specs.SessionAt.{SessionAt, RoundAt}
use Rattle.ice_round.specs.Shown.{IsClosing}
use Rattle.ice_settled.specs.declared.settled.Closing.{Closing}
use Rattle.ice_write_session.specs.Records.{closing_records, spent_records, limit_records}
use Rattle.ice_session_laws.specs.Running.{IsInRound}
use Rattle.ice_session_laws.specs.Laws.{sought_records}
use Rattle.ice_session_laws.specs.Written.{run_records, round_records, IsUnended, IsSpentJournal, IsLimitedJournal}
use Rattle.ice_session_laws.specs.Branches.{enough_for_session}

-- behind settlements that went on: for want of memory nothing is written of the next one, or the
-- groups before one of its searches, before its payments or before its prices, or it opened a
-- round; it closes; a search was spent; or its pricing ended at a limit
pub data EndsSettling (going : List Going) (s : SessionAt) : List Record → Status → Type 0 where
  without_memory : EndsSettling going s (run_records s.exchange going) NoMemory
  finds : (at : Position)
      → IsUnended (run_records s.exchange going ++ position_records version_2 (length (exact_of s.exchange)) s.number at)
      → EndsSettling going s (run_records s.exchange going ++ position_records version_2 (length (exact_of s.exchange)) s.number at)
      NoMemory
  offers : (final : Found) (amount : Regret) (offered : Found)
      → IsUnended (run_records s.exchange going ++ sought_records s final amount offered)
      → EndsSettling going s (run_records s.exchange going ++ sought_records s final amount offered) NoMemory
  opens : (last : Going) (r : RoundAt) → IsInRound going s last r → last.judged ≡ []
      → EndsSettling going s (round_records s going last) NoMemory
  closes : (c : Closing) → IsClosing s c → AllByRecursion IsRecord (closing_records c)
      → EndsSettling going s (run_records s.exchange going ++ closing_records c) Done
  spends : (at : Position) (spent : results.Spent) → s.exchange.settings.branches < enough_for_session s.exchange
      → IsSpentJournal (run_records s.exchange going ++ position_records version_2 (length (exact_of s.exchange)) s.number at
      ++ spent_records s.exchange spent)
      → EndsSettling going s (run_records s.exchange going ++ position_records version_2 (length (exact_of s.exchange)) s.number at
      ++ spent_records s.exchange spent) Spent
  limits : (final : Found) (amount : Regret) (offered : Found) (limit : PriceLimit) → 0 < s.exchange.settings.rounds
      → IsLimitedJournal (run_records s.exchange going ++ sought_records s final amount offered ++ limit_records limit)
      → EndsSettling going s (run_records s.exchange going ++ sought_records s final amount offered ++ limit_records limit) Limit
