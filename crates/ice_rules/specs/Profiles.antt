-- The profiles that decide: the ends of the bounds, and their centre.
use Rattle.std.specs.Prelude.{ℕ, ◌<◌, ◌≡◌, if◌then◌else◌, length, ◌+ℤ◌}
use Rattle.ice_defs.specs.Set.{NodeSet, has, Weights, weight_of}
use Rattle.ice_defs.specs.Bounds.{Bounds}

-- the lower values on the set, and the upper ones elsewhere
pub record AreAgainst (bounds : Bounds) (s : NodeSet) (w : Weights) : Type 0 where
  pub nodes : length w ≡ length bounds.lo
  pub each : (n : ℕ) → n < length bounds.lo → weight_of w n ≡ (if has s n then weight_of bounds.lo n else weight_of bounds.hi n)

-- the upper values on the set, and the lower ones elsewhere
pub record AreInFavour (bounds : Bounds) (s : NodeSet) (w : Weights) : Type 0 where
  pub nodes : length w ≡ length bounds.lo
  pub each : (n : ℕ) → n < length bounds.lo → weight_of w n ≡ (if has s n then weight_of bounds.hi n else weight_of bounds.lo n)

-- the sum of both values: twice the centre
pub record AreCentre (bounds : Bounds) (w : Weights) : Type 0 where
  pub nodes : length w ≡ length bounds.lo
  pub each : (n : ℕ) → n < length bounds.lo → weight_of w n ≡ (weight_of bounds.lo n +ℤ weight_of bounds.hi n)
