-- The leaves of trees, good by good.
use Rattle.std.specs.Prelude.{ℕ, ◌+◌, ◌<◌, ◌≤◌, ◌≡◌, ◌==◌, Bool, true, false, List, length, slice_index, slice_index_or}
use Rattle.ice_defs.specs.declared.NodeKind.{NodeKind}
use Rattle.ice_defs.specs.declared.NodeKind.TheVariants.{Choose, Buy, Sell}
use Rattle.ice_defs.specs.Tree.{Tree, kind_of}
use Rattle.ice_defs.specs.Trade.{tree_of}
use Rattle.ice_bound.specs.declared.leaves.Leaves.{Leaves}

-- a leaf that buys or sells the good
abbrev pub is_leaf_of : NodeKind → ℕ → Bool
is_leaf_of (Choose least most) g = false
is_leaf_of (Buy good units) g = good == g
is_leaf_of (Sell good units) g = good == g

-- no leaf of the good from node a on and before node b
abbrev pub IsWithout : Tree → ℕ → (a b : ℕ) → Type 0
IsWithout t g a b = (k : ℕ) → a ≤ k → k < b → is_leaf_of (kind_of t k) g ≡ false

-- b is the first leaf of the good from node a on, or the number of nodes where there is none
pub record IsNextLeaf (t : Tree) (g a b : ℕ) : Type 0 where
  pub behind : a ≤ b
  pub inside : b ≤ length t
  pub none_between : IsWithout t g a b
  pub is_leaf : b < length t → is_leaf_of (kind_of t b) g ≡ true

-- the first leaf of each good, and the next one behind each leaf
pub record AreLeavesOf (t : Tree) (leaves : Leaves) : Type 0 where
  pub first : (g : ℕ) → g < 32 → IsNextLeaf t g 0 (slice_index leaves.first g)
  pub next : (n g : ℕ) → n < length t → is_leaf_of (kind_of t n) g ≡ true → IsNextLeaf t g (n + 1) (slice_index leaves.next n)

-- the leaves of the first n trees
pub record AreLeaves (ts : List Tree) (leaves : List Leaves) (n : ℕ) : Type 0 where
  pub same_length : length leaves ≡ n
  pub each : (b : ℕ) (d : Leaves) → b < n → AreLeavesOf (tree_of ts b) (slice_index_or leaves b d)
