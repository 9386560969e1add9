-- The tables of trees at their net weights.
use Rattle.std.specs.Prelude.{ℕ, ◌<◌, ◌≤◌, ◌≡◌, ◌≢◌, List, length, slice_index_or, slice_set, ℤ, ◌≤ℤ◌}
use Rattle.ice_defs.specs.Tree.{Tree}
use Rattle.ice_defs.specs.Set.{Weights}
use Rattle.ice_defs.specs.Fixing.{Fixing}
use Rattle.ice_defs.specs.Trade.{tree_of, weights_of, fixing_of}
use Rattle.ice_defs.specs.Bound.{Multipliers}
use Rattle.ice_best.specs.Nets.{AreNetWeights}
use Rattle.ice_best.specs.Entries.{IsTableOf}
use Rattle.ice_bound.specs.Multipliers.{multiplier_of}
use Rattle.ice_bound.specs.declared.direction.Direction.{Direction}
use Rattle.ice_bound.specs.declared.direction.Direction.TheVariants.{Up, Down}
use Rattle.ice_bound.specs.declared.net_table.NetTable.{NetTable}

-- the net weights of the tree at the multipliers, and its table at them and the fixing
pub record IsNetTable (t : Tree) (w : Weights) (m : Multipliers) (x : Fixing) (table : NetTable) : Type 0 where
  pub few : length t ≤ 200
  pub nets : AreNetWeights t w 64 m 1 table.nets.weights
  pub entries : IsTableOf t table.nets.weights x table.table

-- the first n tables are those of the bidders
abbrev pub AreTables : List Tree → List Weights → Multipliers → List Fixing → List NetTable → ℕ → Type 0
AreTables ts ws m xs tables n = (b : ℕ) (d : NetTable) → b < n
    → IsNetTable (tree_of ts b) (weights_of ws b) m (fixing_of xs b) (slice_index_or tables b d)

-- the table of one bidder is made anew, and the others are as they were
pub record IsTableRenewed (old new : List NetTable) (b : ℕ) (t : Tree) (w : Weights) (m : Multipliers) (x : Fixing) : Type 0 where
  pub tables_there : length new ≡ length old
  pub here : (d : NetTable) → IsNetTable t w m x (slice_index_or new b d)
  pub others : (c : ℕ) (d : NetTable) → c ≢ b → slice_index_or new c d ≡ slice_index_or old c d

-- the other goods have the same multipliers
abbrev pub DifferOnlyIn : ℕ → Multipliers → Multipliers → Type 0
DifferOnlyIn good before m = (g : ℕ) → g ≢ good → multiplier_of before g ≡ multiplier_of m g

-- a number moves up, or down
abbrev pub Moves : Direction → ℤ → ℤ → Type 0
Moves Up before z = before ≤ℤ z
Moves Down before z = z ≤ℤ before

-- the multiplier of one good alone moves, up or down
pub record MovesGood (good : ℕ) (direction : Direction) (before m : Multipliers) : Type 0 where
  pub there : good < length before
  pub number : ℤ
  pub is : m ≡ slice_set before good number
  pub moves : Moves direction (multiplier_of before good) number
