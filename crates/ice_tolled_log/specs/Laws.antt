-- Laws of parts with tolls, as statements.
use Rattle.std.specs.Prelude.{◌≤◌, ◌≡◌, Bool, false, List, ◌++◌, length, ℤ, ◌≤ℤ◌}
use Rattle.ice_defs.specs.Tree.{Tree}
use Rattle.ice_defs.specs.Set.{Weights}
use Rattle.ice_defs.specs.Bound.{Multipliers}
use Rattle.ice_defs.specs.Derived.{Derived, Tolls, IsBoundWith, with_derived}
use Rattle.ice_defs.specs.Steps.{Side}
use Rattle.ice_derived.specs.Signs.{HasWrongSigns}
use Rattle.ice_search_log.specs.Parts.{Part}
use Rattle.ice_search_log.specs.Searching.{IsPart}

-- a part that isn't swept takes multipliers and tolls with the bound
-- at them, and one that is swept does where the bound is no greater
abbrev pub TolledIsPart : Type 0
TolledIsPart = (ds : List Derived) (tolls : Tolls) (ts : List Tree) (exact : List Bool) (ws : List Weights) (side : Side) (m : Multipliers)
    (p : Part) (v : ℤ)
    → length m ≡ length exact → length tolls ≤ length ds → ¬ HasWrongSigns exact m tolls → IsBoundWith ds tolls ts ws m side v
    → (p.swept ≡ false → IsPart (with_derived ds) ts exact ws side (record p { m = m ++ tolls; key = v }))
    × (IsPart (with_derived ds) ts exact ws side p → v ≤ℤ p.key
    → IsPart (with_derived ds) ts exact ws side (record p { m = m ++ tolls; key = v }))
