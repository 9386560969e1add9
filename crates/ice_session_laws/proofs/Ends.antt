-- Stops of a session, and what may be written, from what a settlement gives.
use Rattle.ice_session_laws.specs.Laws.{RunSpends, RunIsLimited, OpeningMayBeWritten, ClosingMayBeWritten, SpentMayBeWritten, LimitMayBeWritten}
use Rattle.ice_session_laws.proofs.Rounds.{few_settlements}
use Rattle.ice_session_laws.proofs.Openings as opening
use Rattle.ice_session_laws.proofs.Closings as closing
use Rattle.ice_session_laws.proofs.Spending.{stopped, found_may_be_written, run_spends}
use Rattle.ice_session_laws.proofs.Limiting.{limited, run_limits}

pub spends : RunSpends
spends going s best regret provisional ms spent run is =
    let found = stopped s run.exchange run.lawful best regret provisional ms spent is in
    (found.at, found.comes, λ before behind. run_spends going s run found.at spent found.stops before behind)

pub is_limited : RunIsLimited
is_limited going s best regret provisional ms limit run is =
    let found = limited s run.exchange run.lawful best regret provisional ms limit is in
    (found.sought, λ before behind. run_limits going s run _ _ limit found.limits before behind)

pub opening_may_be_written : OpeningMayBeWritten
opening_may_be_written going s r o run is terms = opening.opening_may_be_written s run.exchange run.lawful r o is (few_settlements going s run) terms

pub closing_may_be_written : ClosingMayBeWritten
closing_may_be_written going s c run is = closing.closing_may_be_written s run.exchange run.lawful c is (few_settlements going s run)

pub spent_may_be_written : SpentMayBeWritten
spent_may_be_written going s h spent run halt is =
    let found = stopped s run.exchange run.lawful h.best h.regret h.provisional h.marginals.items spent is in
    (found_may_be_written s h halt (few_settlements going s run) found.found, found.stops.may_be_written)

pub limit_may_be_written : LimitMayBeWritten
limit_may_be_written going s h limit run halt is =
    let found = limited s run.exchange run.lawful h.best h.regret h.provisional h.marginals.items limit is in
    (found_may_be_written s h halt (few_settlements going s run) found.found, found.limits.may_be_written)
