-- The least good whose units don't balance.
use Rattle.std.specs.Prelude.{ℕ, ◌<◌, ◌≡◌, Bool, List, length, ℤ, pos}
use Rattle.ice_defs.specs.Trade.{is_exact, IsCovered}

-- the units of a good are at most 0, and exactly 0 where the good is exact
abbrev pub IsBalanced : List Bool → (ℕ → ℤ) → ℕ → Type 0
IsBalanced exact units g = IsCovered (is_exact exact g) (units g) (pos 0)

-- the least good whose units don't balance, with these units
pub record IsExcess (exact : List Bool) (units : ℕ → ℤ) (good : ℕ) (excess : ℤ) : Type 0 where
  pub there : good < length exact
  pub excess_is : excess ≡ units good
  pub fault : ¬ IsBalanced exact units good
  pub least : (g : ℕ) → g < good → IsBalanced exact units g
