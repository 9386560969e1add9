-- A turn of a pass.
use Rattle.std.specs.Prelude.{ℕ, ◌≡◌, Bool, true, false, List, ℤ}
use Rattle.ice_defs.specs.Tree.{Tree}
use Rattle.ice_defs.specs.Set.{Weights}
use Rattle.ice_defs.specs.Derived.{Derived}
use Rattle.ice_defs.specs.Steps.{Step, Side}
use Rattle.ice_tolled_search.specs.Pass.{IsTaken}

module _ (ds : List Derived) (ts : List Tree) (exact : List Bool) (ws : List Weights) (value : ℤ) where
  -- a step is taken, or nothing changes
  abbrev pub IsTurn : ℕ → List Side → List Side → List Step → List Step → Bool → Type 0
  IsTurn used sides new_sides log new_log true = IsTaken ds ts exact ws value used sides new_sides log new_log
  IsTurn used sides new_sides log new_log false = (new_sides ≡ sides) × (new_log ≡ log)
