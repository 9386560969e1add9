-- The limits of names and prices.
use Rattle.std.specs.Prelude.{ℕ, ◌≤◌, ◌^◌, ◌&&◌, Bool, IsTrue, List, length, ℤ, pos, int_le}
use Rattle.std.specs.List.{list_all}
use Rattle.ice_defs.specs.Name.{is_name}
use Rattle.ice_defs.specs.Prices.{Prices}

abbrev pub IsName : List ℕ → Type 0
IsName name = IsTrue (is_name name)

-- a numerator of a price: from 0 to 2^62
abbrev pub is_numerator : ℤ → Bool
is_numerator n = int_le (pos 0) n && int_le n (pos (2 ^ 62))

-- a denominator from 1 to 2^32, and 1 to 32 numerators
pub record ArePriceTerms (p : Prices) : Type 0 where
  pub den : (1 ≤ p.den) × (p.den ≤ 2 ^ 32)
  pub count : (1 ≤ length p.nums) × (length p.nums ≤ 32)
  pub each : IsTrue (list_all is_numerator p.nums)
