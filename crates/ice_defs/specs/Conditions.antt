-- What the calls of bounds and logs ask of weights, fixings and multipliers.
use Rattle.std.specs.Prelude.{ℕ, ◌<◌, ◌≡◌, Bool, List, length, pos, neg_ℤ, ◌≤ℤ◌}
use Rattle.ice_defs.specs.Tree.{Tree}
use Rattle.ice_defs.specs.Set.{Weights, weight_of}
use Rattle.ice_defs.specs.Fixing.{Fixing}
use Rattle.ice_defs.specs.Trade.{tree_of, weights_of, fixing_of}
use Rattle.ice_defs.specs.Bound.{Multipliers}
use Rattle.ice_defs.specs.Log.{HasWrongSign}
use Rattle.ice_defs.specs.Bounds.{Bounds, bounds_of}
use Rattle.ice_defs.specs.Lawful.{AreBounds}

-- each weight is at most 100,000,000,000 in size
pub record AreModest (w : Weights) : Type 0 where
  pub low : (n : ℕ) → n < length w → neg_ℤ (pos 100000000000) ≤ℤ weight_of w n
  pub high : (n : ℕ) → n < length w → weight_of w n ≤ℤ pos 100000000000

-- one list of weights per tree, and one modest weight per node
pub record AreWeightsOf (ts : List Tree) (ws : List Weights) : Type 0 where
  pub same_length : length ws ≡ length ts
  pub nodes : (b : ℕ) → b < length ts → length (weights_of ws b) ≡ length (tree_of ts b)
  pub modest : (b : ℕ) → b < length ts → AreModest (weights_of ws b)

-- one fixing per tree, and one mark per node
pub record AreFixingsOf (ts : List Tree) (xs : List Fixing) : Type 0 where
  pub same_length : length xs ≡ length ts
  pub nodes : (b : ℕ) → b < length ts → length (fixing_of xs b) ≡ length (tree_of ts b)

-- one multiplier per good, and a negative one for exact goods alone
pub record AreMultipliersOf (exact : List Bool) (m : Multipliers) : Type 0 where
  pub same_length : length m ≡ length exact
  pub signs : ¬ HasWrongSign exact m

-- one pair of bounds per tree
pub record AreBoundsOf (ts : List Tree) (bounds : List Bounds) : Type 0 where
  pub same_length : length bounds ≡ length ts
  pub each : (b : ℕ) → b < length ts → AreBounds (length (tree_of ts b)) (bounds_of bounds b)
