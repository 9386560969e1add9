-- The units of a set, good by good.
use Rattle.std.specs.Prelude.{ℕ, ◌<◌, ◌≡◌, List, length, ℤ, pos, neg_ℤ, ◌≤ℤ◌}
use Rattle.ice_defs.specs.Tree.{Tree}
use Rattle.ice_defs.specs.Set.{NodeSet, weight_of, units}
use Rattle.ice_defs.specs.Trade.{Assignment, total_units}

-- each of 32 sums is at most this in size
pub record AreWithin (most : ℕ) (sums : List ℤ) : Type 0 where
  pub low : (g : ℕ) → g < 32 → neg_ℤ (pos most) ≤ℤ weight_of sums g
  pub high : (g : ℕ) → g < 32 → weight_of sums g ≤ℤ pos most

-- the sum of each of 32 goods is the set's units of it
pub record AreUnits (t : Tree) (s : NodeSet) (sums : List ℤ) : Type 0 where
  pub count : length sums ≡ 32
  pub each : (g : ℕ) → g < 32 → weight_of sums g ≡ units t s g

-- the units of each good, over all bidders' sets
abbrev pub AreTotalUnits : List Tree → Assignment → List ℤ → Type 0
AreTotalUnits ts a sums = (g : ℕ) → g < 32 → weight_of sums g ≡ total_units ts a g
