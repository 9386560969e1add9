-- The ranges of derived goods and of the numbers of a leaf, and derived goods that fit the trees.
use Rattle.std.specs.Prelude.{ℕ, ◌<◌, ◌≡◌, ◌^◌, List, length, ℤ, pos, neg_ℤ, ◌≤ℤ◌}
use Rattle.ice_defs.specs.Tree.{Tree}
use Rattle.ice_defs.specs.Set.{Weights, weight_of}
use Rattle.ice_defs.specs.Trade.{tree_of, weights_of}
use Rattle.ice_defs.specs.Derived.{Derived, derived_at, Tolls, toll_of}

-- at most 2^20 in size
pub record IsAmount (z : ℤ) : Type 0 where
  pub low : neg_ℤ (pos (2 ^ 20)) ≤ℤ z
  pub high : z ≤ℤ pos (2 ^ 20)

abbrev pub AreAmounts : Weights → Type 0
AreAmounts w = (n : ℕ) → n < length w → IsAmount (weight_of w n)

abbrev pub AreAllAmounts : List Weights → Type 0
AreAllAmounts ws = (b : ℕ) → b < length ws → AreAmounts (weights_of ws b)

-- at most 2^40 in size
pub record IsLimit (z : ℤ) : Type 0 where
  pub low : neg_ℤ (pos (2 ^ 40)) ≤ℤ z
  pub high : z ≤ℤ pos (2 ^ 40)

-- a number of a leaf is at most 2^62 in size
pub record IsToll (z : ℤ) : Type 0 where
  pub low : neg_ℤ (pos (2 ^ 62)) ≤ℤ z
  pub high : z ≤ℤ pos (2 ^ 62)

abbrev pub AreInRange : Tolls → Type 0
AreInRange tolls = (k : ℕ) → k < length tolls → IsToll (toll_of tolls k)

-- one list of amounts per tree, with one amount per node
pub record FitsTrees (ts : List Tree) (d : Derived) : Type 0 where
  pub bidders : length d.amounts ≡ length ts
  pub nodes : (b : ℕ) → b < length ts → length (weights_of d.amounts b) ≡ length (tree_of ts b)

-- so it is with each derived good
abbrev pub FitTrees : List Tree → List Derived → Type 0
FitTrees ts ds = (k : ℕ) → k < length ds → FitsTrees ts (derived_at ds k)
