-- What is kept beside the last settlement: its low bounds,
-- and its payments over the cut's denominator.
use Rattle.std.specs.Prelude.{◌≡◌, List, ℤ}
use Rattle.ice_defs.specs.Bounds.{Bounds}
use Rattle.ice_defs.specs.Weighing.{weighted_weights}
use Rattle.ice_pricing.specs.Bounding.{AreBoundsOf}
use Rattle.ice_fair.specs.Lasts.{LastTrade, IsLast, nums_of}

pub record IsKept (l : LastTrade) (bounds : List Bounds) (nums : List ℤ) : Type 0 where
  pub last : IsLast l
  pub bounds_of : AreBoundsOf l.exchange bounds
  pub weights : l.paid.weights ≡ weighted_weights l.exchange.settings.weight bounds
  pub nums_are : nums ≡ nums_of l
