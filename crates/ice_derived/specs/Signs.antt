-- Wrong signs of the numbers of a leaf.
use Rattle.std.specs.Prelude.{ℕ, ◌<◌, ◌⊎◌, Bool, List, length, pos, ◌<ℤ◌}
use Rattle.ice_defs.specs.Bound.{Multipliers}
use Rattle.ice_defs.specs.Log.{HasWrongSign}
use Rattle.ice_defs.specs.Derived.{Tolls, toll_of}

abbrev pub HasNegative : Tolls → Type 0
HasNegative tolls = (k : ℕ) × (k < length tolls) × (toll_of tolls k <ℤ pos 0)

-- a negative multiplier of a good that isn't exact, or a negative toll
abbrev pub HasWrongSigns : List Bool → Multipliers → Tolls → Type 0
HasWrongSigns exact m tolls = HasWrongSign exact m ⊎ HasNegative tolls
