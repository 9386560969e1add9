-- Laws of the fairness test, as statements.
use Rattle.std.specs.Prelude.{◌≡◌, length, ℤ}
use Rattle.std.specs.List.{AllByRecursion}
use Rattle.ice_defs.specs.Prices.{Prices, ArePrices}
use Rattle.ice_defs.specs.Rows.{Certificate, PassesAccuracy}
use Rattle.ice_defs.specs.Fraction.{Fraction, IsFraction, AtMost}
use Rattle.ice_row_laws.specs.Laws.{AreSatisfied}
use Rattle.ice_fair_laws.specs.Fair.{PaidTrade, FairCertificate, IsDistance, HasViolationOf, AreAccurate, AreFair, PassesFairness, Covers}

-- each bidder has a satisfied set, and pays a fraction
pub record IsPaidTrade (t : PaidTrade) : Type 0 where
  pub satisfied : AreSatisfied t.trees t.sets
  pub payments_count : length t.payments ≡ length t.trees
  pub fractions : AllByRecursion IsFraction t.payments

-- the violation x of prices as a fraction
abbrev pub violation_of : Prices → ℤ → Fraction
violation_of p x = record { num = x; den = p.den }

-- where the certificate passes the fairness test, no accurate
-- prices have a smaller distance than the tested one
abbrev pub TestGivesLeast : Type 0
TestGivesLeast = (t : PaidTrade) (p : Prices) (x : ℤ) (d : Fraction) (c : FairCertificate)
    → IsPaidTrade t → ArePrices t.goods t.cap p → HasViolationOf t p x → IsFraction d → PassesFairness t c (violation_of p x) d
    → (q : Prices) (e : Fraction) → AreAccurate t q → IsFraction e → Covers t q e → AtMost d e

-- prices of this violation and this distance that pass both tests are fair
abbrev pub TestGivesFair : Type 0
TestGivesFair = (t : PaidTrade) (p : Prices) (x : ℤ) (d : Fraction) (accuracy : Certificate) (c : FairCertificate)
    → IsPaidTrade t → ArePrices t.goods t.cap p → HasViolationOf t p x → IsDistance t p d
    → PassesAccuracy t.trees t.weights t.sets t.goods t.cap p x accuracy → PassesFairness t c (violation_of p x) d → AreFair t p
