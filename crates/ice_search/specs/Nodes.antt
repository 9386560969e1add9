-- Nodes at which a side may be split.
use Rattle.std.specs.Prelude.{ℕ, ◌≡◌, List}
use Rattle.ice_defs.specs.declared.Mark.TheVariants.{Must, Never}
use Rattle.ice_defs.specs.Tree.{Tree}
use Rattle.ice_defs.specs.Steps.{Side, with_mark}
use Rattle.ice_defs.specs.Log.{IsFreeNode}
use Rattle.ice_defs.specs.Sweep.{IsLive}
use Rattle.ice_bound.specs.Kept.{Standing}

-- the node is free, and both children are live
pub record IsSplitNode (ts : List Tree) (side : Side) (b n : ℕ) : Type 0 where
  pub free : IsFreeNode ts side b n
  pub must : IsLive ts (with_mark side b n Must)
  pub never : IsLive ts (with_mark side b n Never)

-- the bidder has no such node
abbrev pub HasNoNodeOf : List Tree → Side → ℕ → Type 0
HasNoNodeOf ts side b = (n : ℕ) → IsFreeNode ts side b n → IsLive ts (with_mark side b n Must) → ¬ IsLive ts (with_mark side b n Never)

-- all is as it was but for the relaxed sets
pub record IsSameStanding (old new : Standing) : Type 0 where
  pub trees : new.trees ≡ old.trees
  pub weights : new.weights ≡ old.weights
  pub marks : new.marks ≡ old.marks
  pub multipliers : new.multipliers ≡ old.multipliers
  pub exact : new.exact ≡ old.exact
