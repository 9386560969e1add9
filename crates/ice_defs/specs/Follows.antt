-- Derived goods that follow from others.
use Rattle.std.specs.Prelude.{ℕ, ◌<◌, Bool, List, length, take}
use Rattle.ice_defs.specs.Tree.{Tree}
use Rattle.ice_defs.specs.Steps.{Step}
use Rattle.ice_defs.specs.Derived.{Derived, derived_at, Means, goods_alone, with_derived}
use Rattle.ice_defs.specs.Log.{PassesBy}
use Rattle.ice_defs.specs.Group.{free_side}

module _ (ts : List Tree) (exact : List Bool) where
  -- by derived goods a log passes at the amounts of another, with its limit as target, where all
  -- nodes are free
  abbrev pub Follows : List Derived → Derived → Type 0
  Follows ds d = (log : List Step) × PassesBy (with_derived ds) ts exact d.amounts d.limit (free_side ts) log

  -- each follows from those before it
  abbrev pub AreLawful : List Derived → Type 0
  AreLawful ds = (k : ℕ) → k < length ds → Follows (take k ds) (derived_at ds k)

  -- the derived goods that leaves may close by are lawful
  abbrev pub IsLawful : Means → Type 0
  IsLawful goods_alone = Unit {0}
  IsLawful (with_derived ds) = AreLawful ds
