-- Weights, sets and bounds of the same trees.
use Rattle.std.specs.Prelude.{ℕ, ◌<◌, ◌≡◌, List, length}
use Rattle.ice_defs.specs.Tree.{Tree}
use Rattle.ice_defs.specs.Set.{Weights}
use Rattle.ice_defs.specs.Trade.{Assignment, tree_of, weights_of, set_of}
use Rattle.ice_defs.specs.Bounds.{Bounds, bounds_of}

-- one weight for each node of each bidder
pub record AreAlike (ws : List Weights) (bounds : List Bounds) : Type 0 where
  pub count : length ws ≡ length bounds
  pub nodes : (b : ℕ) → b < length bounds → length (weights_of ws b) ≡ length (bounds_of bounds b).lo

-- one set for each bidder, of the bidder's nodes
pub record AreChosen (a : Assignment) (bounds : List Bounds) : Type 0 where
  pub count : length a ≡ length bounds
  pub nodes : (b : ℕ) → b < length bounds → length (set_of a b) ≡ length (bounds_of bounds b).lo

-- one set for each tree, of the tree's nodes
pub record HasSetPerTree (ts : List Tree) (a : Assignment) : Type 0 where
  pub count : length a ≡ length ts
  pub nodes : (b : ℕ) → b < length ts → length (set_of a b) ≡ length (tree_of ts b)

-- one list of weights for each tree, and in it one weight for each node
pub record HasWeightPerNode (ts : List Tree) (ws : List Weights) : Type 0 where
  pub count : length ws ≡ length ts
  pub nodes : (b : ℕ) → b < length ts → length (weights_of ws b) ≡ length (tree_of ts b)
