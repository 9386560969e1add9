-- What is kept of the rows of a certificate while they come in.
use Rattle.std.specs.Prelude.{ℕ, ◌*◌, ◌^◌, ◌≤◌, ◌≡◌, List, length}
use Rattle.std.specs.List.{AllByRecursion}
use Rattle.ice_defs.specs.Rows.{Row, IsRow}
use Rattle.ice_row_laws.specs.Sums.{RowSums, AreSums}
use Rattle.ice_pricing.specs.Provisional.{ProvisionalTrade}

-- how many there are, and their sums
pub record RowTally : Type 0 where
  pub count : ℕ
  pub sums : RowSums

-- at most 200 rows, of weights up to 2^32
pub record IsFitting (tally : RowTally) : Type 0 where
  pub few : tally.count ≤ 200
  pub light : tally.sums.weight ≤ tally.count * 2 ^ 32

-- these rows of a trade were taken
pub record IsTallyOf (t : ProvisionalTrade) (rows : List Row) (tally : RowTally) : Type 0 where
  pub count : tally.count ≡ length rows
  pub each : AllByRecursion (IsRow t.trees t.weights t.sets) rows
  pub sums : AreSums t.trees t.weights t.sets t.goods rows tally.sums
