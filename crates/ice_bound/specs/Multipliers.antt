-- Multipliers and their range.
use Rattle.std.specs.Prelude.{ℕ, ◌<◌, ◌^◌, length, slice_index_or, ℤ, pos, neg_ℤ, ◌≤ℤ◌}
use Rattle.ice_defs.specs.Bound.{Multipliers}

-- 0 for a good past the last one
abbrev pub multiplier_of : Multipliers → ℕ → ℤ
multiplier_of m g = slice_index_or m g (pos 0)

pub record IsInRange (z : ℤ) : Type 0 where
  pub low : neg_ℤ (pos (2 ^ 56)) ≤ℤ z
  pub high : z ≤ℤ pos (2 ^ 56)

abbrev pub AreInRange : Multipliers → Type 0
AreInRange m = (g : ℕ) → g < length m → IsInRange (multiplier_of m g)
