-- How large the sums of rows get, so that a reader knows where they fit.
use Rattle.std.specs.Prelude.{ℕ, ◌*◌, ◌<◌, ◌≤◌, List, length, ℤ, pos, neg_ℤ, ◌≤ℤ◌}
use Rattle.std.specs.List.{AllByRecursion}
use Rattle.ice_defs.specs.Tree.{Tree}
use Rattle.ice_defs.specs.Set.{Weights}
use Rattle.ice_defs.specs.Trade.{Assignment}
use Rattle.ice_defs.specs.Rows.{Row, worth_above, units_above}
use Rattle.ice_row_laws.specs.Sums.{RowSums, units_in, wanted_in, AreSums}

-- at most m in size
pub record IsSizedWithin (m : ℕ) (z : ℤ) : Type 0 where
  pub low : neg_ℤ (pos m) ≤ℤ z
  pub high : z ≤ℤ pos m

-- limits of one row: of its weight, and of the sizes of its worth and of its units of a good
pub record Limits : Type 0 where
  pub weight : ℕ
  pub worth : ℕ
  pub units : ℕ

pub record IsRowWithin (ts : List Tree) (ws : List Weights) (sets : Assignment) (goods : ℕ) (most : Limits) (row : Row) : Type 0 where
  pub weight : row.weight ≤ most.weight
  pub worth : IsSizedWithin most.worth (worth_above ts ws sets row)
  pub units : (g : ℕ) → g < goods → IsSizedWithin most.units (units_above ts ws sets g row)

-- limits of the sums of n rows, and of what they want
pub record AreSumsWithin (goods : ℕ) (most : Limits) (n : ℕ) (s : RowSums) : Type 0 where
  pub weight : s.weight ≤ n * most.weight
  pub worth : IsSizedWithin (n * (most.weight * most.worth)) s.worth
  pub units : (g : ℕ) → g < goods → IsSizedWithin (n * (most.weight * most.units)) (units_in s g)
  pub wanted_low : pos 0 ≤ℤ wanted_in goods s
  pub wanted_high : wanted_in goods s ≤ℤ pos (goods * (n * (most.weight * most.units)))

-- n rows within the limits have sums within n times them
abbrev pub SumsAreWithin : Type 0
SumsAreWithin = (ts : List Tree) (ws : List Weights) (sets : Assignment) (goods : ℕ) (most : Limits) (rows : List Row) (s : RowSums)
    → AllByRecursion (IsRowWithin ts ws sets goods most) rows → AreSums ts ws sets goods rows s → AreSumsWithin goods most (length rows) s
