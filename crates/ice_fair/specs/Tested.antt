-- Prices that pass the tests of fair prices.
use Rattle.std.specs.Prelude.{ℕ, ◌≤◌, List, ℤ}
use Rattle.std.specs.List.{AllByRecursion}
use Rattle.ice_defs.specs.Prices.{Prices, ArePrices}
use Rattle.ice_defs.specs.Fraction.{Fraction}
use Rattle.ice_defs.specs.Rows.{IsRow, Certificate, PassesAccuracy, HasCommonDivisor}
use Rattle.ice_pricing.specs.Provisional.{ProvisionalTrade}
use Rattle.ice_pricing.specs.Priced.{HasViolation}
use Rattle.ice_fair_laws.specs.Fair.{PaidTrade, FairCertificate, IsDistance, HasViolationOf, PassesFairness, total_held}
use Rattle.ice_fair_laws.specs.Whole.{IsEven}
use Rattle.ice_fair_laws.specs.Laws.{violation_of}

pub record PassesFairTests (t : PaidTrade) (p : Prices) (violation : ℤ) (accuracy : Certificate) (distance : Fraction)
    (c : FairCertificate) : Type 0 where
  pub within : ArePrices t.goods t.cap p
  pub lowest : ¬ HasCommonDivisor p
  pub violates : HasViolationOf t p violation
  pub accurate : PassesAccuracy t.trees t.weights t.sets t.goods t.cap p violation accuracy
  pub distance_is : IsDistance t p distance
  pub fairness : PassesFairness t c (violation_of p violation) distance

-- those of the tests that payments have no part in
pub record PassesPriceTests (t : ProvisionalTrade) (p : Prices) (violation : ℤ) (accuracy : Certificate) : Type 0 where
  pub within : ArePrices t.goods t.cap p
  pub lowest : ¬ HasCommonDivisor p
  pub violates : HasViolation t p violation
  pub accurate : PassesAccuracy t.trees t.weights t.sets t.goods t.cap p violation accuracy

-- and those of the distance
pub record PassesNearness (t : PaidTrade) (p : Prices) (violation : ℤ) (distance : Fraction) (c : FairCertificate) : Type 0 where
  pub distance_is : IsDistance t p distance
  pub fairness : PassesFairness t c (violation_of p violation) distance

-- the numbers of both lists with the rows of a certificate
abbrev pub numbers_of : Certificate → List ℕ → List ℕ → FairCertificate
numbers_of c low high = record { den = c.den; low = low; high = high; rows = c.rows }

-- all that the fairness test asks for of lists of the right length, as whole numbers
pub record IsTested (t : PaidTrade) (c : FairCertificate) (p : Prices) (x : ℤ) (n : ℕ) (a : ℕ → ℤ) (g : ℤ) : Type 0 where
  pub rows : AllByRecursion (IsRow t.trees t.weights t.sets) c.rows
  pub numbers : total_held c ≤ c.den
  pub even : IsEven t c p x n a g
