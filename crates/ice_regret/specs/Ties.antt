-- Ties: which is kept of trades that are worth the same at lower values.
use Rattle.std.specs.Prelude.{ℕ, ◌≡◌, ◌⊎◌, List, ℤ, pos, ◌+ℤ◌, ◌≤ℤ◌, ◌<ℤ◌}
use Rattle.ice_defs.specs.Trade.{total_value}
use Rattle.ice_defs.specs.Bounds.{Bounds}
use Rattle.ice_defs.specs.Weighing.{lower_weights}
use Rattle.ice_defs.specs.Regret.{IsRegret}
use Rattle.ice_defs.specs.Exchange.{Exchange, market_of}
use Rattle.ice_search.specs.Results.{IsSpentBy}
use Rattle.ice_search.specs.declared.results.Found.{Found}
use Rattle.ice_search.specs.declared.results.Spent.{Spent}
use Rattle.ice_regret.specs.Regretted.{rival_search}
use Rattle.ice_regret.specs.declared.lead.Regret.{Regret}

module _ (ex : Exchange) (bounds : List Bounds) where
  -- the regret is above the one that closes a session, and its rival is worth so much at lower
  -- values
  pub record IsTie (value : ℤ) (r : Regret) : Type 0 where
    pub above : ex.settings.close_regret <ℤ r.amount
    pub tied : total_value r.rival (lower_weights bounds) ≡ value

  -- nothing is left to gain by the rival: the regret closes a session; the rival isn't worth as
  -- much at lower values; its own regret is no smaller; or the search for that needs more branches
  pub data IsUseless (left : ℕ) (value : ℤ) (r : Regret) : Type 0 where
    closes : r.amount ≤ℤ ex.settings.close_regret → IsUseless left value r
    untied : (total_value r.rival (lower_weights bounds) ≡ value → ⊥) → IsUseless left value r
    no_smaller : (other : ℤ) → IsRegret (market_of ex) bounds r.rival other → r.amount ≤ℤ other → IsUseless left value r
    spent : (s : Spent) → IsSpentBy (rival_search ex bounds r.rival) left s → IsUseless left value r

  -- of the trade that was found first, and of the one that is kept: its regret is no greater; they
  -- are the same, or it is smaller; and where the first one closes a session, they are the same.
  -- There is nothing left to gain by the rival, or the regret fell by five
  pub record IsKeptOfTies (left : ℕ) (old new : Found) (r : Regret) : Type 0 where
    pub first : ℤ
    pub is_first : IsRegret (market_of ex) bounds old.best first
    pub no_greater : r.amount ≤ℤ first
    pub changed : (new ≡ old) ⊎ (r.amount <ℤ first)
    pub unchanged : first ≤ℤ ex.settings.close_regret → new ≡ old
    pub last : IsUseless left old.value r ⊎ ((r.amount +ℤ pos 5) ≤ℤ first)
