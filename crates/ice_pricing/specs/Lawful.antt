-- Prices that are outside the cap, or not in lowest terms.
use Rattle.std.specs.Prelude.{ℕ, ◌<◌, ◌⊎◌, length, ℤ, pos, ◌*ℤ◌, ◌<ℤ◌}
use Rattle.ice_defs.specs.Prices.{Prices, price_of}
use Rattle.ice_defs.specs.Rows.{HasCommonDivisor}

-- a price is above the cap, or the prices have a common divisor
abbrev pub AreUnlawful : ℤ → Prices → Type 0
AreUnlawful cap p = ((g : ℕ) × (g < length p.nums) × ((cap *ℤ pos p.den) <ℤ price_of p g)) ⊎ HasCommonDivisor p
