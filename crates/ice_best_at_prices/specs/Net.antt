-- The best set of a tree at prices.
use Rattle.std.specs.Prelude.{ℕ, ◌≡◌, ℤ, ◌≤ℤ◌}
use Rattle.ice_defs.specs.Tree.{Tree}
use Rattle.ice_defs.specs.Set.{NodeSet, IsSatisfied, Weights}
use Rattle.ice_defs.specs.Prices.{Prices}
use Rattle.ice_defs.specs.Rules.{net_at}
pub use Rattle.ice_best.specs.Nets.{AreAtMostTrillion}

-- a satisfied set has this net, times the prices' denominator, at weights
-- that are so many times the values, and none has a greater one
pub record IsBestAtPrices (t : Tree) (w : Weights) (times : ℕ) (p : Prices) (s : NodeSet) (net : ℤ) : Type 0 where
  pub satisfied : IsSatisfied t s
  pub has : net_at t p times w s ≡ net
  pub greatest : (other : NodeSet) → IsSatisfied t other → net_at t p times w other ≤ℤ net
