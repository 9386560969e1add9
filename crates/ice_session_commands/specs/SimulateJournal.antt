-- The journal that `simulate` writes, as far as it comes.
use Rattle.std.specs.Prelude.{List, ℤ}
use Rattle.ice_edge.specs.declared.status.Status.{Status}
use Rattle.ice_edge.specs.declared.status.Status.TheVariants.{NoMemory}
use Rattle.ice_defs.specs.Exchange.{Exchange, opening_bounds}
use Rattle.ice_defs.specs.Session.{Going, standings}
use Rattle.ice_journal.specs.Records.{Record}
use Rattle.ice_round.specs.SessionAt.{SessionAt, RoundAt}
use Rattle.ice_session_laws.specs.Running.{IsRunning, IsInRound}
use Rattle.ice_session_laws.specs.Written.{round_records}
use Rattle.ice_proxy.specs.Sessions.{IsProxyFrom}
use Rattle.ice_proxy_laws.specs.Laws.{IsProxyFront}
use Rattle.ice_session_commands.specs.SessionEnds.{EndsSettling}

-- behind rounds of proxies it ends in a settlement; or nothing stopped so far in a round, in which
-- the first of them have bid
pub data IsSimulatedJournal (truths : List (List ℤ)) : Exchange → List Record → Status → Type 0 where
  settles : (going : List Going) (s : SessionAt) {journal : List Record} {status : Status} → IsRunning going s
      → IsProxyFrom s.exchange truths (opening_bounds s.exchange) going
      → EndsSettling going s journal status → IsSimulatedJournal truths s.exchange journal status
  in_round : (going : List Going) (s : SessionAt) (last : Going) (r : RoundAt) → IsInRound going s last r
      → IsProxyFrom s.exchange truths (opening_bounds s.exchange) going
      → IsProxyFront last.prices s.exchange.settings.improve (standings s.exchange s.bounds last.provisional.sets) truths last.judged
      → IsSimulatedJournal truths s.exchange (round_records s going last) NoMemory
