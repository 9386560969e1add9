-- By how much a bidder's best set beats its own.
use Rattle.std.specs.Prelude.{◌≡◌, ℤ, ◌-ℤ◌, ◌≤ℤ◌}
use Rattle.ice_defs.specs.Tree.{Tree}
use Rattle.ice_defs.specs.Set.{NodeSet, IsSatisfied, Weights}
use Rattle.ice_defs.specs.Prices.{Prices}
use Rattle.ice_defs.specs.Rules.{net_at}

-- a set's net above that of the bidder's own one, at weighted
-- values and times the prices' denominator, in hundredths
abbrev pub excess_over : Tree → Weights → Prices → NodeSet → NodeSet → ℤ
excess_over t w p own s = net_at t p 100 w s -ℤ net_at t p 100 w own

-- a satisfied set has this excess, and none has a greater one
pub record IsGreatestExcess (t : Tree) (w : Weights) (p : Prices) (own best : NodeSet) (excess : ℤ) : Type 0 where
  pub satisfied : IsSatisfied t best
  pub has : excess_over t w p own best ≡ excess
  pub greatest : (other : NodeSet) → IsSatisfied t other → excess_over t w p own other ≤ℤ excess
