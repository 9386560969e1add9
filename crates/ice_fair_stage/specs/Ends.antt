-- How the fairness stage ends.
use Rattle.std.specs.Prelude.{ℕ, ◌≤◌, ◌≡◌, ◌^◌, List, length, ℤ, Some}
use Rattle.ice_defs.specs.Fraction.{Fraction, Equals, fraction_at}
use Rattle.ice_defs.specs.PricingLimit.{limit_of}
use Rattle.ice_defs.specs.Rows.{HasCommonDivisor}
use Rattle.ice_pricing.specs.Provisional.{ProvisionalTrade}
use Rattle.ice_pricing.specs.Priced.{HasViolation}
use Rattle.ice_fair_laws.specs.Fair.{AreFair, IsDistance, PassesFairness}
use Rattle.ice_fair_laws.specs.FairRun.{fair_solution, fair_weights, HasNoneForFair, IsFairPool, IsFairTooLarge, EndsAtFairLimit}
use Rattle.ice_fair_laws.specs.Laws.{violation_of}
use Rattle.ice_fair_laws.specs.Run.{prices_at}
use Rattle.ice_fair_stage.specs.Paid.{paid_with}
use Rattle.ice_fair_stage.specs.Certified.{IsFairLimited, certificate_of}
use Rattle.ice_fair_stage.specs.declared.ends.FairStageEnd.{FairStageEnd}
use Rattle.ice_fair_stage.specs.declared.ends.FairStop.{FairStop}
use Rattle.ice_fair_stage.specs.declared.ends.FairStop.TheVariants.{Limit, NoMemory}

module _ (t : ProvisionalTrade) (payments : List Fraction) (cut : ℕ) (delta : ℤ) (den : ℕ) where
  -- no set is to be added to the pool: the prices and the distance are those of the
  -- solution, and the certificate is that of its duals, which aren't too large
  pub record IsStatedEnd (end : FairStageEnd) : Type 0 where
    pub pool : IsFairPool (paid_with t payments) cut delta den end.pool.items
    pub point : (x : List Fraction) × (fair_solution (paid_with t payments) cut delta den end.pool.items ≡ Some x)
        × HasNoneForFair (paid_with t payments) cut delta den x × (end.prices ≡ prices_at (paid_with t payments) x)
        × (end.distance ≡ fraction_at x t.goods)
    pub den_fits : end.prices.den ≤ 2 ^ 32
    pub certificate_is : end.certificate
        ≡ certificate_of (length t.trees) end.pool.items (fair_weights (paid_with t payments) cut delta den end.pool.items)
    pub fits : ¬ IsFairTooLarge (paid_with t payments) cut delta den end.pool.items

  -- the prices are fair, with this violation, the one that was given, and this
  -- distance; the certificate shows it, and is limited
  pub record IsFairEnd (end : FairStageEnd) : Type 0 where
    pub lowest : ¬ HasCommonDivisor end.prices
    pub violates : HasViolation t end.prices end.violation
    pub same : Equals (violation_of end.prices end.violation) (record { num = delta; den = den })
    pub fair : AreFair (paid_with t payments) end.prices
    pub distance_is : IsDistance (paid_with t payments) end.prices end.distance
    pub passes : PassesFairness (paid_with t payments) end.certificate (violation_of end.prices end.violation) end.distance
    pub limited : IsFairLimited (length t.trees) end.certificate

  -- the stage ends at this limit; want of memory has no cause
  abbrev pub IsFairStop : FairStop → Type 0
  IsFairStop (Limit limit) = (limit.delta ≡ delta) × (limit.den ≡ den)
      × EndsAtFairLimit (paid_with t payments) cut delta den (limit_of limit.kind) limit.pool.items
  IsFairStop NoMemory = Unit {0}
