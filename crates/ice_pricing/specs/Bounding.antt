-- Bounds of an exchange's bidders.
use Rattle.std.specs.Prelude.{ℕ, ◌<◌, ◌≡◌, List, length}
use Rattle.ice_defs.specs.Bounds.{Bounds, bounds_of}
use Rattle.ice_defs.specs.Exchange.{Exchange, trees_of}
use Rattle.ice_defs.specs.Lawful.{AreBounds}
use Rattle.ice_defs.specs.Trade.{tree_of}

-- one for each bidder, with a lower and an upper value of each node of its tree
pub record AreBoundsOf (ex : Exchange) (bounds : List Bounds) : Type 0 where
  pub count : length bounds ≡ length ex.bidders
  pub each : (b : ℕ) → b < length bounds → AreBounds (length (tree_of (trees_of ex) b)) (bounds_of bounds b)
