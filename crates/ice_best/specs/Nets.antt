-- Nets of sets at rates, as values at other weights.
use Rattle.std.specs.Prelude.{ℕ, ◌<◌, ◌≡◌, ◌^◌, List, length, slice_index_or, ℤ, pos, neg_ℤ, ◌-ℤ◌, ◌*ℤ◌, ◌≤ℤ◌}
use Rattle.ice_defs.specs.declared.NodeKind.{NodeKind}
use Rattle.ice_defs.specs.declared.NodeKind.TheVariants.{Choose, Buy, Sell}
use Rattle.ice_defs.specs.Sum.{sum_below}
use Rattle.ice_defs.specs.Tree.{Tree, kind_of}
use Rattle.ice_defs.specs.Set.{NodeSet, Weights, weight_of, value, units}

-- one rate for each good: what a unit of it costs; a good past the last one costs nothing
abbrev pub Rates : Type 0
Rates = List ℤ

abbrev pub rate_of : Rates → ℕ → ℤ
rate_of rates g = slice_index_or rates g (pos 0)

-- each rate is at most 2^62 in size
pub record AreRates (rates : Rates) : Type 0 where
  pub low : (g : ℕ) → g < length rates → neg_ℤ (pos (2 ^ 62)) ≤ℤ rate_of rates g
  pub high : (g : ℕ) → g < length rates → rate_of rates g ≤ℤ pos (2 ^ 62)

-- each weight is at most 1,000,000,000,000 in size
pub record AreAtMostTrillion (w : Weights) : Type 0 where
  pub low : (n : ℕ) → n < length w → neg_ℤ (pos 1000000000000) ≤ℤ weight_of w n
  pub high : (n : ℕ) → n < length w → weight_of w n ≤ℤ pos 1000000000000

-- what a leaf buys costs its rate for each unit, and what it sells earns as much
abbrev pub node_cost : NodeKind → Rates → ℤ
node_cost (Choose least most) rates = pos 0
node_cost (Buy good units) rates = rate_of rates good *ℤ pos units
node_cost (Sell good units) rates = neg_ℤ (rate_of rates good *ℤ pos units)

-- what the units of a set cost
abbrev pub set_cost : Tree → Rates → NodeSet → ℤ
set_cost t rates s = sum_below (λ g. rate_of rates g *ℤ units t s g) (length rates)

-- the value of a set, scaled, less so many times what its units cost
abbrev pub net_at_rates : Tree → Weights → ℕ → Rates → ℕ → NodeSet → ℤ
net_at_rates t w scale rates times s = (pos scale *ℤ value s w) -ℤ (pos times *ℤ set_cost t rates s)

-- the weight of a node, scaled, less so many times its cost
abbrev pub node_net : Tree → Weights → ℕ → Rates → ℕ → ℕ → ℤ
node_net t w scale rates times n = (pos scale *ℤ weight_of w n) -ℤ (pos times *ℤ node_cost (kind_of t n) rates)

-- a net is at most 2^90 in size
pub record IsNet (z : ℤ) : Type 0 where
  pub low : neg_ℤ (pos (2 ^ 90)) ≤ℤ z
  pub high : z ≤ℤ pos (2 ^ 90)

abbrev pub AllNets : Weights → Type 0
AllNets w = (n : ℕ) → n < length w → IsNet (weight_of w n)

-- the net of each node
pub record AreNetWeights (t : Tree) (w : Weights) (scale : ℕ) (rates : Rates) (times : ℕ) (nets : Weights) : Type 0 where
  pub nodes : length nets ≡ length t
  pub each : (n : ℕ) → n < length t → weight_of nets n ≡ node_net t w scale rates times n
  pub small : AllNets nets
