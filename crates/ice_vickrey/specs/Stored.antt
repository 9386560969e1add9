-- What a market keeps beside its exchange, its bounds and its best value.
use Rattle.std.specs.Prelude.{◌≡◌, List, ℤ, pos, ◌≤ℤ◌}
use Rattle.ice_defs.specs.Set.{Weights}
use Rattle.ice_defs.specs.Trade.{Assignment}
use Rattle.ice_defs.specs.Bounds.{Bounds}
use Rattle.ice_defs.specs.Bound.{Multipliers}
use Rattle.ice_defs.specs.Weighing.{lower_weights}
use Rattle.ice_defs.specs.Group.{empty_sets}
use Rattle.ice_defs.specs.Exchange.{Exchange, trees_of, exact_of}
use Rattle.ice_defs.specs.Conditions.{AreMultipliersOf}
use Rattle.ice_vickrey.specs.Economy.{IsEconomy}

-- the lower values, the empty sets, and multipliers that a search may begin with
pub record IsStored (ex : Exchange) (bounds : List Bounds) (total : ℤ) (ws : List Weights)
    (none : Assignment) (m : Multipliers) : Type 0 where
  pub economy : IsEconomy (record { exchange = ex; bounds = bounds; total = total })
  pub high : total ≤ℤ pos 8000000000000
  pub weights : ws ≡ lower_weights bounds
  pub empty : none ≡ empty_sets (trees_of ex)
  pub multipliers : AreMultipliersOf (exact_of ex) m
