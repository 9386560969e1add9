-- What the bound of a side is.
use Rattle.std.specs.Prelude.{ℕ, ◌<◌, Bool, List, ℤ, ◌≤ℤ◌, length}
use Rattle.ice_defs.specs.Tree.{Tree}
use Rattle.ice_defs.specs.Set.{Weights}
use Rattle.ice_defs.specs.Fixing.{Fixing}
use Rattle.ice_defs.specs.Trade.{Assignment, IsFeasible, MeetsAll, total_value}
use Rattle.ice_defs.specs.Bound.{Multipliers, IsDead, IsBound}
use Rattle.ice_bound.specs.declared.answer.Bound.{Bound}
use Rattle.ice_bound.specs.declared.answer.Bound.TheVariants.{Dead, AtMost}

-- no satisfied set of the bidder meets its fixing, and each bidder before it has one that does
pub record IsFirstDead (ts : List Tree) (xs : List Fixing) (b : ℕ) : Type 0 where
  pub there : b < length ts
  pub dead : IsDead ts xs b
  pub first : (c : ℕ) → c < b → ¬ IsDead ts xs c

-- the first dead bidder, and the bound where there is none
abbrev pub IsAnswer : List Tree → List Weights → Multipliers → List Fixing → Bound → Type 0
IsAnswer ts ws m xs (Dead b) = IsFirstDead ts xs b
IsAnswer ts ws m xs (AtMost v) = IsBound ts ws m xs v

-- a value that the bound allows
abbrev pub Allows : Bound → ℤ → Type 0
Allows (Dead b) value = ⊥
Allows (AtMost v) value = value ≤ℤ v

-- the bound allows each feasible assignment that meets the fixings
abbrev pub IsAboveAll : List Tree → List Bool → List Weights → List Fixing → Bound → Type 0
IsAboveAll ts exact ws xs bound = (a : Assignment) → IsFeasible ts exact a → MeetsAll a xs → Allows bound (total_value a ws)
