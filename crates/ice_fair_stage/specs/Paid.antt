-- A trade with what its bidders pay.
use Rattle.std.specs.Prelude.{ℕ, ◌≤◌, ◌≡◌, ◌^◌, List, ℤ}
use Rattle.std.specs.List.{AllByRecursion}
use Rattle.ice_defs.specs.Fraction.{Fraction}
use Rattle.ice_defs.specs.Prices.{Prices}
use Rattle.ice_row_laws.specs.Sizes.{IsSizedWithin}
use Rattle.ice_pricing.specs.Provisional.{ProvisionalTrade}
use Rattle.ice_fair_laws.specs.Fair.{PaidTrade, AreAccurate, HasViolationOf}
use Rattle.ice_fair_laws.specs.Laws.{IsPaidTrade}
use Rattle.ice_fair_laws.specs.Run.{IsCutDen}

-- the bidders of a trade pay these fractions
abbrev pub paid_with : ProvisionalTrade → List Fraction → PaidTrade
paid_with t payments = record {
  trees = t.trees;
  weights = t.weights;
  sets = t.sets;
  goods = t.goods;
  cap = t.cap;
  payments = payments;
}

-- a numerator of at most 10^18 in size
abbrev pub IsShortPayment : Fraction → Type 0
IsShortPayment f = IsSizedWithin (10 ^ 18) f.num

-- a short fraction a bidder, whose denominators divide one from 1 to 1,000
pub record ArePayments (t : ProvisionalTrade) (cut : ℕ) (payments : List Fraction) : Type 0 where
  pub paid : IsPaidTrade (paid_with t payments)
  pub cut_den : IsCutDen (paid_with t payments) cut
  pub few : cut ≤ 1000
  pub short : AllByRecursion IsShortPayment payments

-- there are accurate prices over this denominator, and this is their violation
abbrev pub HasAccurate : ProvisionalTrade → List Fraction → ℤ → ℕ → Type 0
HasAccurate t payments delta den = (p : Prices) × AreAccurate (paid_with t payments) p × HasViolationOf (paid_with t payments) p delta
    × (p.den ≡ den)
