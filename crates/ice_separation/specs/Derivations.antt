-- Derived goods that one multiplier of one good shows.
use Rattle.std.specs.Prelude.{ℕ, ◌<◌, ◌≡◌, ◌≢◌, Bool, List, [], ◌∷◌, length, replicate, slice_set, pos}
use Rattle.ice_defs.specs.Tree.{Tree}
use Rattle.ice_defs.specs.Set.{Weights, weight_of}
use Rattle.ice_defs.specs.Trade.{weights_of}
use Rattle.ice_defs.specs.Bound.{Multipliers}
use Rattle.ice_defs.specs.Steps.{leaf}
use Rattle.ice_defs.specs.Log.{PassesBy}
use Rattle.ice_defs.specs.Group.{free_side}
use Rattle.ice_defs.specs.Derived.{Derived, IsBoundWith, with_derived}
use Rattle.ice_defs.specs.Follows.{Follows}
use Rattle.ice_refute.specs.Waiting.{nodes_of}
use Rattle.ice_derived.specs.Ranges.{IsLimit, AreAllAmounts}

-- how it is seen: the derived good, and which good has which multiplier
pub record DerivationView : Type 0 where
  pub derived : Derived
  pub good : ℕ
  pub multiplier : ℕ

-- of so many goods this one has this multiplier, and each other 0
abbrev pub lone_multiplier : ℕ → ℕ → ℕ → Multipliers
lone_multiplier goods g m = slice_set (replicate goods (pos 0)) g (pos m)

-- some node takes something
abbrev pub HasAmount : List Weights → Type 0
HasAmount ws = (b n : ℕ) × (b < length ws) × (n < length (weights_of ws b)) × (weight_of (weights_of ws b) n ≢ pos 0)

-- one leaf shows it, whatever derived goods stand before it: that with the one multiplier, and no
-- tolls. The limit is the bound of this leaf, so it is the least that it shows
pub record IsDerivation (ts : List Tree) (exact : List Bool) (d : DerivationView) : Type 0 where
  pub good : d.good < length exact
  pub nodes : nodes_of d.derived.amounts ≡ nodes_of ts
  pub range : AreAllAmounts d.derived.amounts
  pub some : HasAmount d.derived.amounts
  pub limit : IsLimit d.derived.limit
  pub bound : IsBoundWith [] [] ts d.derived.amounts (lone_multiplier (length exact) d.good d.multiplier) (free_side ts) d.derived.limit
  pub shown : (ds : List Derived) → PassesBy (with_derived ds) ts exact d.derived.amounts d.derived.limit (free_side ts)
      (leaf (lone_multiplier (length exact) d.good d.multiplier) ∷ [])
  pub follows : (ds : List Derived) → Follows ts exact ds d.derived
