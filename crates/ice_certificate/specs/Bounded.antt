-- Sums of rows that fit 128 bits, and how a row is added to them.
use Rattle.std.specs.Prelude.{ℕ, ◌+◌, ◌*◌, ◌^◌, ◌<◌, ◌≤◌, ◌≡◌, length, pos, ◌+ℤ◌, ◌-ℤ◌, ◌*ℤ◌}
use Rattle.ice_defs.specs.Tree.{Tree}
use Rattle.ice_defs.specs.Set.{NodeSet, Weights, value, units}
use Rattle.ice_row_laws.specs.Sums.{RowSums, units_in}
use Rattle.ice_row_laws.specs.Sizes.{IsSizedWithin}

-- one sum for each of 32 goods; the weights sum to at most 2^40, and the
-- other sums are no larger than rows of that weight make them
pub record AreBounded (s : RowSums) : Type 0 where
  pub goods : length s.units ≡ 32
  pub weight : s.weight ≤ 2 ^ 40
  pub worth : IsSizedWithin (s.weight * 2 ^ 49) s.worth
  pub units : (g : ℕ) → g < 32 → IsSizedWithin (s.weight * 2 ^ 19) (units_in s g)

-- a set with a weight is added: what it is worth above the
-- bidder's own set, and the units that it has above it
pub record AddsRow (t : Tree) (w : Weights) (own set : NodeSet) (times : ℕ) (before after : RowSums) : Type 0 where
  pub weight : after.weight ≡ before.weight + times
  pub worth : after.worth ≡ before.worth +ℤ (pos times *ℤ (value set w -ℤ value own w))
  pub units : (g : ℕ) → g < 32 → units_in after g ≡ units_in before g +ℤ (pos times *ℤ (units t set g -ℤ units t own g))
