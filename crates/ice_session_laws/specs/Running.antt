-- A session as far as it has come: settlements that went on, and the round of the last one.
use Rattle.std.specs.Prelude.{◌+◌, ◌≤◌, ◌≡◌, false, List, length}
use Rattle.std.specs.List.{AllByRecursion}
use Rattle.ice_defs.specs.Steps.{branch_count}
use Rattle.ice_defs.specs.Sweep.{EarnsStep}
use Rattle.ice_defs.specs.Exchange.{trees_of, exact_of, opening_bounds}
use Rattle.ice_defs.specs.Lawful.{IsExchange}
use Rattle.ice_defs.specs.Session.{Going, closes}
use Rattle.ice_headline_laws.specs.Right.{IsGoing, bounds_after_rounds}
use Rattle.ice_defs.specs.Conditions.{AreBoundsOf}
use Rattle.ice_journal.specs.Records.{version_2}
use Rattle.ice_journal.specs.Ranges.{IsRecord}
use Rattle.ice_journal_laws.specs.ShowingSession.{going_in, goings_in, IsShownGoing, AreShownGoing}
use Rattle.ice_journal_laws.specs.Earning.{EarnsGoing, EarnGoings}
use Rattle.ice_journal_laws.specs.Positions.{settlement_branches, going_branches}
use Rattle.ice_journal_laws.specs.Stops.{AreGoing}
use Rattle.ice_verdicts.specs.Judges.{IsAfter}
use Rattle.ice_round.specs.SessionAt.{SessionAt, RoundAt}

-- these settlements went on, each is shown, right and earned, and the session comes behind them
pub record IsRunning (going : List Going) (s : SessionAt) : Type 0 where
  pub exchange : IsExchange s.exchange
  pub shown : AreShownGoing s.exchange 0 (opening_bounds s.exchange) going
  pub earned : EarnGoings EarnsStep s.exchange (opening_bounds s.exchange) going
  pub right : AreGoing s.exchange 0 (opening_bounds s.exchange) going
  pub records : AllByRecursion IsRecord (goings_in version_2 (length (exact_of s.exchange)) 0 going)
  pub bounds : bounds_after_rounds s.exchange (opening_bounds s.exchange) going ≡ s.bounds
  pub lawful : AreBoundsOf (trees_of s.exchange) s.bounds
  pub number : length going ≡ s.number
  pub few : s.number ≤ s.exchange.settings.rounds
  pub branches : s.branches + going_branches going ≡ s.exchange.settings.branches

-- the session's next settlement went on too, and its round has come so far
pub record IsInRound (going : List Going) (s : SessionAt) (last : Going) (r : RoundAt) : Type 0 where
  pub running : IsRunning going s
  pub goes_on : closes s.exchange.settings s.number last.settlement.regret ≡ false
  pub shown : IsShownGoing s.exchange s.bounds last
  pub earned : EarnsGoing EarnsStep s.exchange s.bounds last
  pub right : IsGoing s.exchange s.bounds last
  pub records : AllByRecursion IsRecord (going_in version_2 (length (exact_of s.exchange)) s.number last)
  pub exchange : r.exchange ≡ s.exchange
  pub number : r.number ≡ s.number
  pub bounds : r.round.bounds ≡ s.bounds
  pub sets : r.round.sets ≡ last.provisional.sets
  pub prices : r.round.prices ≡ last.prices
  pub after : IsAfter s.exchange last.judged r.round
  pub branches : r.branches + (settlement_branches last.settlement + branch_count last.provisional.log) ≡ s.branches
