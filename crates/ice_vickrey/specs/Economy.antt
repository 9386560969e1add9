-- A market whose best value is known, and the search without one of its bidders.
use Rattle.std.specs.Prelude.{ℕ, List, ℤ}
use Rattle.ice_defs.specs.Trade.{IsBestOfAll}
use Rattle.ice_defs.specs.Bounds.{Bounds}
use Rattle.ice_defs.specs.Weighing.{lower_weights}
use Rattle.ice_defs.specs.declared.Group.TheVariants.{Without}
use Rattle.ice_defs.specs.Group.{start_of, empty_sets}
use Rattle.ice_defs.specs.Exchange.{Exchange, trees_of, exact_of}
use Rattle.ice_defs.specs.Conditions.{AreBoundsOf}
use Rattle.ice_search.specs.Instance.{Instance, instance_of}

pub record Economy : Type 0 where
  pub exchange : Exchange
  pub bounds : List Bounds
  pub total : ℤ

abbrev pub economy_at : Exchange → List Bounds → ℤ → Economy
economy_at ex bounds total = record { exchange = ex; bounds = bounds; total = total }

-- no feasible assignment has a greater lower value than the total, which one attains
pub record IsEconomy (e : Economy) : Type 0 where
  pub bounds : AreBoundsOf (trees_of e.exchange) e.bounds
  pub total : IsBestOfAll (trees_of e.exchange) (exact_of e.exchange) (lower_weights e.bounds) e.total

-- at lower values, with the root of the bidder left out, from the empty sets
abbrev pub without_search : Exchange → List Bounds → ℕ → Instance
without_search ex bounds b = instance_of ex (lower_weights bounds) (start_of (trees_of ex) (Without b)) (empty_sets (trees_of ex))
