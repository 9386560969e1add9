-- The set that is best at the centre of the bounds.
use Rattle.std.specs.Prelude.{ℕ, ◌≤◌, ◌≤ℤ◌}
use Rattle.ice_defs.specs.Tree.{Tree}
use Rattle.ice_defs.specs.Set.{NodeSet, IsSatisfied, Weights}
use Rattle.ice_defs.specs.Bounds.{Bounds, IsInside}
use Rattle.ice_defs.specs.Prices.{Prices}
use Rattle.ice_defs.specs.Rules.{net_at, IsBestThroughout}

-- at no profile is the set behind a satisfied set that is best throughout
abbrev pub IsAsGoodAsAny : Tree → Prices → Bounds → NodeSet → Type 0
IsAsGoodAsAny t p bounds a =
    (best : NodeSet) → IsSatisfied t best → IsBestThroughout t p bounds best
    → (k : ℕ) (v : Weights) → 1 ≤ k → IsInside k bounds v → net_at t p k v best ≤ℤ net_at t p k v a
