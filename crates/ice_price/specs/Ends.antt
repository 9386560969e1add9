-- How a pricing run ends.
use Rattle.std.specs.Prelude.{List, ℤ}
use Rattle.ice_defs.specs.Prices.{Prices}
use Rattle.ice_defs.specs.PricingRun.{Member, StageAt, first_stage, IsAtLimit, EndsAtLimit}
use Rattle.ice_pricing_laws.specs.Laws.{balance_at}
use Rattle.ice_pricing.specs.Provisional.{ProvisionalTrade}
use Rattle.ice_pricing.specs.Priced.{IsLimited, PassesTests, AreBalanced}
use Rattle.ice_pricing.specs.declared.certificate.Pricing.{Pricing}
use Rattle.ice_price.specs.Runs.{IsState, IsRunFrom, IsStageEnd}
use Rattle.ice_defs.specs.PricingLimit.{stage_of, limit_of}
use Rattle.ice_price.specs.declared.ends.PriceLimit.{PriceLimit}
use Rattle.ice_price.specs.declared.ends.PriceEnd.{PriceEnd}
use Rattle.ice_price.specs.declared.ends.PriceEnd.TheVariants.{Limit, NoMemory}
use Rattle.ice_turns.specs.declared.ends.Stop.{Stop}
use Rattle.ice_turns.specs.declared.ends.Stop.TheVariants.{AtLimit, WithoutMemory}

-- the stage of a limit, with the violation of the accuracy stage over its denominator
abbrev pub stage_at : PriceLimit → StageAt
stage_at limit = record { stage = stage_of limit.stage; delta = limit.delta; den = limit.den }

module _ (t : ProvisionalTrade) where
  -- a turn is stopped by a limit; want of memory has no cause
  abbrev pub IsStopped : StageAt → List Member → Stop → Type 0
  IsStopped at pool (AtLimit kind) = IsAtLimit t.trees t.weights t.sets t.goods t.cap (limit_of kind) at pool
  IsStopped at pool WithoutMemory = Unit {0}

  -- so is a run
  abbrev pub IsRunStopped : StageAt → List Member → Stop → Type 0
  IsRunStopped at pool (AtLimit kind) = EndsAtLimit t.trees t.weights t.sets t.goods t.cap (limit_of kind) at pool
  IsRunStopped at pool WithoutMemory = Unit {0}

  -- the run of the exchange's prices ends at this limit
  abbrev pub IsPriceEnd : PriceEnd → Type 0
  IsPriceEnd (Limit limit) = EndsAtLimit t.trees t.weights t.sets t.goods t.cap (limit_of limit.kind) (stage_at limit) limit.pool.items
  IsPriceEnd NoMemory = Unit {0}

  -- the prices pass all tests, and are balanced; each certificate has at most 200 rows
  pub record IsPriced (p : Pricing) : Type 0 where
    pub passes : PassesTests t p.prices p.delta p.accuracy p.balance
    pub balanced : AreBalanced t p.prices
    pub accuracy_limited : IsLimited p.accuracy
    pub balance_limited : IsLimited p.balance

  -- the run ends with these prices: no set is to be added to a pool in the accuracy
  -- stage, nor to a later one to which the balance stage leads from that pool
  pub record IsRunPriced (p : Pricing) : Type 0 where
    pub pool : List Member
    pub prices : Prices
    pub violation : ℤ
    pub state : IsState t first_stage pool
    pub accurate : IsStageEnd t first_stage pool prices violation p.accuracy
    pub later : List Member
    pub later_state : IsState t (balance_at violation prices.den) later
    pub later_from : IsRunFrom t (balance_at violation prices.den) pool later
    pub balanced : IsStageEnd t (balance_at violation prices.den) later p.prices p.delta p.balance
