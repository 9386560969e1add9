-- What a checker tells of the record that comes next.
use Rattle.std.specs.Prelude.{ℕ, ◌≡◌, Bool, true, false, List, ℤ, Option, Some, None}
use Rattle.ice_defs.specs.Bounds.{Bounds}
use Rattle.ice_defs.specs.Exchange.{Exchange}
use Rattle.ice_journal_laws.specs.State.{Place, at_regret, at_prices, State, exchange_at}
use Rattle.ice_journal_laws.specs.Progress.{Progress, passing}
use Rattle.ice_check_records.specs.declared.due.DueRegret.{DueRegret}

-- the regret of a settlement
abbrev pub is_regret_place : Place → Bool
is_regret_place at_regret = true
is_regret_place other = false

abbrev pub awaits_regret : Progress → Bool
awaits_regret (passing s) = is_regret_place s.place
awaits_regret other = false

-- the prices of a settlement, or a stop in their place
abbrev pub is_prices_place : Place → Bool
is_prices_place at_prices = true
is_prices_place other = false

abbrev pub awaits_prices : Progress → Bool
awaits_prices (passing s) = is_prices_place s.place
awaits_prices other = false

-- the tests have come to the regret of the settlement with this number, of this exchange, at
-- these bounds, with final sets of this value
pub record IsDue (number : ℕ) (ex : Exchange) (bounds : List Bounds) (final : ℤ) (p : Progress) : Type 0 where
  pub state : State
  pub come : p ≡ passing state
  pub place : state.place ≡ at_regret
  pub number_is : state.number ≡ number
  pub exchange : exchange_at state ≡ ex
  pub bounds_are : state.bounds ≡ bounds
  pub final_is : state.final.value ≡ final

-- the regret of this settlement comes next, or none does
abbrev pub TellsDue : Option DueRegret → Progress → Type 0
TellsDue None p = awaits_regret p ≡ false
TellsDue (Some due) p = IsDue due.number due.exchange.now due.bounds.now due.final_value p
