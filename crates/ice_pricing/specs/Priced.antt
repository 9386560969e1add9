-- Prices of a provisional trade with what shows them to be accurate and balanced.
use Rattle.std.specs.Prelude.{◌<◌, ◌≤◌, ◌^◌, length, ℤ}
use Rattle.std.specs.List.{AllByRecursion}
use Rattle.ice_defs.specs.Prices.{Prices, ArePrices}
use Rattle.ice_defs.specs.Pricing.{IsViolation, IsBalanced}
use Rattle.ice_defs.specs.Rows.{Certificate, PassesAccuracy, PassesBalance, HasCommonDivisor}
use Rattle.ice_pricing.specs.Provisional.{ProvisionalTrade}

-- a denominator from 1 to 2^32, and at most 200 rows of weights up to 2^32
pub record IsLimited (c : Certificate) : Type 0 where
  pub positive : 0 < c.den
  pub den_fits : c.den ≤ 2 ^ 32
  pub few : length c.rows ≤ 200
  pub weights_fit : AllByRecursion (λ row. row.weight ≤ 2 ^ 32) c.rows

module _ (t : ProvisionalTrade) where
  -- the prices' violation, times their denominator
  abbrev pub HasViolation : Prices → ℤ → Type 0
  HasViolation p violation = IsViolation t.trees t.weights t.sets p violation

  -- the four tests of prices
  pub record PassesTests (p : Prices) (violation : ℤ) (accuracy balance : Certificate) : Type 0 where
    pub within : ArePrices t.goods t.cap p
    pub lowest : ¬ HasCommonDivisor p
    pub violates : HasViolation p violation
    pub accurate : PassesAccuracy t.trees t.weights t.sets t.goods t.cap p violation accuracy
    pub balanced : PassesBalance t.trees t.weights t.sets t.goods p violation balance

  abbrev pub AreBalanced : Prices → Type 0
  AreBalanced p = IsBalanced t.trees t.weights t.sets t.goods t.cap p
