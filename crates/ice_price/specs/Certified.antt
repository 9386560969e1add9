-- Certificates of weights that aren't too large.
use Rattle.std.specs.Prelude.{◌≤◌, ◌≡◌, ◌^◌, List, pos, ◌≤ℤ◌}
use Rattle.std.specs.List.{AllByRecursion}
use Rattle.ice_defs.specs.Fraction.{Fraction}
use Rattle.ice_defs.specs.Rows.{Certificate}
use Rattle.ice_defs.specs.PricingRun.{Member, common_den, num_over}
use Rattle.ice_pricing_laws.specs.Weights.{certificate_with, nums_of}
use Rattle.ice_pricing.specs.Priced.{IsLimited}

-- the certificate of the members with these weights, where they fit
pub record IsCertificate (pool : List Member) (ws : List Fraction) (c : Certificate) : Type 0 where
  pub value : c ≡ certificate_with (common_den ws) pool (nums_of ws)
  pub limited : IsLimited c
  pub den_fits : common_den ws ≤ 2 ^ 32
  pub nums_fit : AllByRecursion (λ w. num_over (common_den ws) w ≤ℤ pos (2 ^ 32)) ws
