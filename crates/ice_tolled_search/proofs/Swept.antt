-- A leaf that a sweep makes passes in 4096ths, where its bound is at most the value.
use Rattle.std.proofs.Common.{◌≤◌, ◌+◌, Bool, List, [], ◌∷◌, length, ℤ, ◌≤ℤ◌, arith, inl, inr}
use Rattle.std.proofs.lemmas.List.{length-map}
use Rattle.std.specs.Prelude.{pos, ◌*ℤ◌}
use Rattle.ice_defs.specs.Tree.{Tree}
use Rattle.ice_defs.specs.Set.{Weights}
use Rattle.ice_defs.specs.Bound.{Multipliers, IsBound}
use Rattle.ice_defs.specs.Derived.{Derived, Means, with_derived}
use Rattle.ice_defs.specs.Steps.{leaf, Side}
use Rattle.ice_defs.specs.Log.{is_dead_leaf, closes, PassesBy}
use Rattle.ice_defs.specs.Sweep.{Sweeps, all_zero}
use Rattle.ice_bound.specs.Laws.{in_4096ths}
use Rattle.ice_refute.specs.Passing.{PassesAtBy}
use Rattle.ice_refute.proofs.Derived.{plain_passes}
use Rattle.ice_search_log.proofs.Swept.{sweep_is_lawful}

lone_leaf : (means : Means) (ts : List Tree) (exact : List Bool) (ws : List Weights) (value : ℤ) (side : Side) (m : Multipliers)
    → PassesBy means ts exact ws value side (leaf m ∷ []) → PassesAtBy means ts exact ws value side (leaf m)
lone_leaf means ts exact ws value side m (is_dead_leaf signs is) = (signs, inl is)
lone_leaf means ts exact ws value side m (closes {v = v} signs is small) = (signs, inr (v, is, small))

pub swept_passes : (ds : List Derived) (ts : List Tree) (exact : List Bool) (ws : List Weights) (value : ℤ) (side : Side) (m : Multipliers) (v : ℤ)
    → Sweeps ts exact ws side (all_zero ts exact ws) m → IsBound ts ws m side v → v ≤ℤ value
    → PassesAtBy (with_derived ds) ts exact ws value side (leaf (in_4096ths m)) × (length (in_4096ths m) ≤ length exact + length ds)
swept_passes ds ts exact ws value side m v sweeps is small =
    let lawful = sweep_is_lawful ts exact ws side m sweeps in (
      lone_leaf (with_derived ds) ts exact ws value side (in_4096ths m) ((plain_passes ds ts exact ws value side (leaf m ∷ []) (lawful.0, tt)).0 (closes {v = v} lawful.1 is small)),
      omega (arith, lawful.0, length-map m (λ z. pos 64 *ℤ z)),
    )
