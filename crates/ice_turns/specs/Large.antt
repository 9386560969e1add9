-- Weights that are too large for a certificate, and those that aren't.
use Rattle.std.specs.Prelude.{ℕ, ◌<◌, ◌≤◌, ◌≡◌, ◌⊎◌, List, pos, ◌≤ℤ◌, ◌<ℤ◌, Any}
use Rattle.ice_defs.specs.Fraction.{Fraction, IsFraction}
use Rattle.ice_defs.specs.PricingRun.{common_den, num_over}
use Rattle.ice_defs.specs.declared.LimitKind.TheVariants.{Den}
use Rattle.ice_turns.specs.declared.ends.Stop.{Stop}
use Rattle.ice_turns.specs.declared.ends.Stop.TheVariants.{AtLimit, WithoutMemory}

-- the numerator or the denominator is above the limit
abbrev pub IsLarge : ℕ → Fraction → Type 0
IsLarge most w = (most < w.den) ⊎ (pos most <ℤ w.num)

-- neither is
pub record AreFitting (most : ℕ) (w : Fraction) : Type 0 where
  pub proper : IsFraction w
  pub den_fits : w.den ≤ most
  pub num_fits : w.num ≤ℤ pos most

-- over their least common denominator, it or a numerator is above the limit
abbrev pub AreLarge : ℕ → List Fraction → Type 0
AreLarge most ws = (most < common_den ws) ⊎ Any (λ w. pos most <ℤ num_over (common_den ws) w) ws

-- a stop with this cause at the limit of denominators; want of memory has none
abbrev pub IsStoppedBy : Type 0 → Stop → Type 0
IsStoppedBy cause (AtLimit kind) = (kind ≡ Den) × cause
IsStoppedBy cause WithoutMemory = Unit {0}
