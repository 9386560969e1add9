-- The stages of a pricing run, with what is known of their numbers.
use Rattle.std.specs.Prelude.{◌*◌, ◌<◌, ◌≤◌, ◌^◌, pos, ◌≤ℤ◌}
use Rattle.ice_defs.specs.PricingRun.{StageAt}

-- a denominator from 1 to 2^32, and a violation from 0 to 2^49
pub record IsSizedStage (at : StageAt) : Type 0 where
  pub positive : 0 < at.den
  pub den_fits : at.den ≤ 2 ^ 32
  pub low : pos 0 ≤ℤ at.delta
  pub high : at.delta ≤ℤ pos (2 ^ 49 * at.den)
