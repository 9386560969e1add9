-- The last settlement of a closed session: a trade at low bounds, with
-- what its bidders pay and the denominator of the cut.
use Rattle.std.specs.Prelude.{ℕ, ◌≤◌, ◌^◌, List, map, ℤ}
use Rattle.std.specs.List.{AllByRecursion}
use Rattle.ice_defs.specs.Bounds.{Bounds}
use Rattle.ice_defs.specs.Exchange.{Exchange}
use Rattle.ice_defs.specs.Fraction.{Fraction}
use Rattle.ice_defs.specs.PricingRun.{num_over}
use Rattle.ice_defs.specs.Trade.{Assignment}
use Rattle.ice_row_laws.specs.Sizes.{IsSizedWithin}
use Rattle.ice_pricing.specs.Provisional.{ProvisionalTrade, IsProvisional}
use Rattle.ice_fair_laws.specs.Fair.{PaidTrade, paid_of}
use Rattle.ice_fair_laws.specs.Laws.{IsPaidTrade}
use Rattle.ice_fair_laws.specs.Run.{IsCutDen}

pub record LastTrade : Type 0 where
  pub exchange : Exchange
  pub paid : PaidTrade
  pub cut : ℕ

-- the trade without what its bidders pay
abbrev pub trade_of : PaidTrade → ProvisionalTrade
trade_of t = record { trees = t.trees; weights = t.weights; sets = t.sets; goods = t.goods; cap = t.cap }

-- a numerator of at most 10^18 in size
abbrev pub IsShortPayment : Fraction → Type 0
IsShortPayment f = IsSizedWithin (10 ^ 18) f.num

-- satisfied sets and weights of all bidders, and payments in short
-- fractions whose denominators divide one from 1 to 1,000
pub record IsLast (l : LastTrade) : Type 0 where
  pub trade : IsProvisional (trade_of l.paid)
  pub paid : IsPaidTrade l.paid
  pub cut : IsCutDen l.paid l.cut
  pub few : l.cut ≤ 1000
  pub short : AllByRecursion IsShortPayment l.paid.payments

-- the payments over the denominator of the cut
abbrev pub nums_of : LastTrade → List ℤ
nums_of l = map (num_over l.cut) l.paid.payments

abbrev pub last_at : Exchange → List Bounds → Assignment → List Fraction → ℕ → LastTrade
last_at ex bounds sets payments cut = record { exchange = ex; paid = paid_of ex bounds sets payments; cut = cut }
