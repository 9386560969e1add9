-- How turns of the fairness stage end.
use Rattle.std.specs.Prelude.{ℕ, ◌≤◌, ◌≡◌, ◌^◌, List, length, ℤ, Some}
use Rattle.ice_defs.specs.Fraction.{Fraction, fraction_at}
use Rattle.ice_defs.specs.Prices.{Prices}
use Rattle.ice_defs.specs.PricingLimit.{limit_of}
use Rattle.ice_defs.specs.PricingRun.{Member}
use Rattle.ice_defs.specs.Rows.{HasCommonDivisor}
use Rattle.ice_pricing.specs.Provisional.{ProvisionalTrade}
use Rattle.ice_pricing.specs.Priced.{HasViolation}
use Rattle.ice_fair_laws.specs.FairRun.{fair_solution, fair_weights, HasNoneForFair, MayFollowFair, IsAtFairLimit, EndsAtFairLimit}
use Rattle.ice_fair_laws.specs.Run.{prices_at}
use Rattle.ice_fair_stage.specs.Stages.{FairStage, paid}
use Rattle.ice_fair_stage.specs.Certified.{IsCertificate}
use Rattle.ice_fair_stage.specs.declared.turn.Found.{Found}
use Rattle.ice_fair_stage.specs.declared.turn.Turn.{Turn}
use Rattle.ice_fair_stage.specs.declared.turn.Turn.TheVariants.{Adds, Ends}
use Rattle.ice_turns.specs.declared.ends.Stop.{Stop}
use Rattle.ice_turns.specs.declared.ends.Stop.TheVariants.{AtLimit, WithoutMemory}

-- prices of this violation and this distance, with the certificate of the weights
pub record IsFoundWith (bidders : ℕ) (pool : List Member) (ws : List Fraction) (prices : Prices) (violation : ℤ) (distance : Fraction)
    (found : Found) : Type 0 where
  pub prices_are : found.prices ≡ prices
  pub violation_is : found.violation ≡ violation
  pub distance_is : found.distance ≡ distance
  pub certificate : IsCertificate bidders pool ws found.certificate

-- a turn that ends with these
abbrev pub IsEndWith : ℕ → List Member → List Fraction → Prices → ℤ → Fraction → Turn → Type 0
IsEndWith bidders pool ws prices violation distance (Adds m) = ⊥
IsEndWith bidders pool ws prices violation distance (Ends found) = IsFoundWith bidders pool ws prices violation distance found

module _ (t : ProvisionalTrade) (at : FairStage) where
  -- a turn is stopped by a limit; want of memory has no cause
  abbrev pub IsStopped : List Member → Stop → Type 0
  IsStopped pool (AtLimit kind) = IsAtFairLimit (paid t at) at.cut at.delta at.den (limit_of kind) pool
  IsStopped pool WithoutMemory = Unit {0}

  -- so is a run
  abbrev pub IsRunStopped : List Member → Stop → Type 0
  IsRunStopped pool (AtLimit kind) = EndsAtFairLimit (paid t at) at.cut at.delta at.den (limit_of kind) pool
  IsRunStopped pool WithoutMemory = Unit {0}

  -- no set is to be added to the pool: the solution's prices with
  -- their violation and distance, and the certificate of its duals
  pub record IsFound (pool : List Member) (found : Found) : Type 0 where
    pub point : (x : List Fraction) × (fair_solution (paid t at) at.cut at.delta at.den pool ≡ Some x)
        × HasNoneForFair (paid t at) at.cut at.delta at.den x × (found.prices ≡ prices_at (paid t at) x)
        × (found.distance ≡ fraction_at x t.goods)
    pub den_fits : found.prices.den ≤ 2 ^ 32
    pub lowest : ¬ HasCommonDivisor found.prices
    pub violates : HasViolation t found.prices found.violation
    pub certificate : IsCertificate (length t.trees) pool (fair_weights (paid t at) at.cut at.delta at.den pool) found.certificate

  abbrev pub IsTurn : List Member → Turn → Type 0
  IsTurn pool (Adds m) = MayFollowFair (paid t at) at.cut at.delta at.den pool m
  IsTurn pool (Ends found) = IsFound pool found
