-- How a search for fair prices ends.
use Rattle.std.specs.Prelude.{◌≡◌}
use Rattle.ice_defs.specs.PricingLimit.{limit_of}
use Rattle.ice_fair_laws.specs.FairRun.{EndsAtFairLimit}
use Rattle.ice_pricing.specs.declared.certificate.Pricing.{Pricing}
use Rattle.ice_price.specs.Ends.{IsPriceEnd, IsPriced}
use Rattle.ice_price.specs.declared.ends.PriceEnd.TheVariants.{Limit as PriceRunLimit}
use Rattle.ice_fair_stage.specs.declared.ends.FairLimit.{FairLimit}
use Rattle.ice_fair_stage.specs.declared.ends.FairStop.{FairStop}
use Rattle.ice_fair_stage.specs.declared.ends.FairStop.TheVariants.{Limit as StageLimit, NoMemory as StageMemory}
use Rattle.ice_fair.specs.Lasts.{LastTrade, trade_of}
use Rattle.ice_fair.specs.declared.ends.FairEnd.{FairEnd}
use Rattle.ice_fair.specs.declared.ends.FairEnd.TheVariants.{Price, Limit, NoMemory}

-- the fairness stage ends at this limit, from the violation
-- of accurate prices over their denominator
pub record IsFairLimit (l : LastTrade) (limit : FairLimit) : Type 0 where
  pub priced : (p : Pricing) × IsPriced (trade_of l.paid) p × (p.delta ≡ limit.delta) × (p.prices.den ≡ limit.den)
  pub ends : EndsAtFairLimit l.paid l.cut limit.delta limit.den (limit_of limit.kind) limit.pool.items

-- pricing ends at its limit, or the fairness stage does; want of memory has no cause
abbrev pub IsFairEnd : LastTrade → FairEnd → Type 0
IsFairEnd l (Price limit) = IsPriceEnd (trade_of l.paid) (PriceRunLimit limit)
IsFairEnd l (Limit limit) = IsFairLimit l limit
IsFairEnd l NoMemory = Unit {0}

-- so does the stage by itself
abbrev pub IsStageStop : LastTrade → FairStop → Type 0
IsStageStop l (StageLimit limit) = IsFairLimit l limit
IsStageStop l StageMemory = Unit {0}
