-- The states of a pricing run of a provisional trade, and what a turn makes of them.
use Rattle.std.specs.Prelude.{◌≡◌, ◌≤◌, ◌+◌, ◌^◌, List, [], ◌∷◌, ◌++◌, length, Some, ℤ}
use Rattle.ice_defs.specs.Fraction.{Fraction}
use Rattle.ice_defs.specs.Prices.{Prices, ArePrices}
use Rattle.ice_defs.specs.Program.{AreNonNegative}
use Rattle.ice_defs.specs.Rows.{Certificate, HasCommonDivisor}
use Rattle.ice_defs.specs.Trace.{trace_end}
use Rattle.ice_defs.specs.PricingRun.{Member, StageAt, solution, solution_prices, duals_at, HasNoneToAdd, IsCertificateTooLarge, IsRunState}
use Rattle.ice_defs.specs.PricingRun.{MayFollow}
use Rattle.ice_pricing_laws.specs.Ends.{certificate_at}
use Rattle.ice_pricing.specs.Provisional.{ProvisionalTrade}
use Rattle.ice_pricing.specs.Priced.{HasViolation, IsLimited}
use Rattle.ice_price.specs.Certified.{IsCertificate}
use Rattle.ice_price.specs.Programs.{program_over}
use Rattle.ice_price.specs.declared.turn.Turn.{Turn}
use Rattle.ice_price.specs.declared.turn.Turn.TheVariants.{Adds, Ends}

-- the stage ends at these prices of this violation, with the
-- certificate of the members with these weights
abbrev pub IsEndWith : List Member → List Fraction → Prices → ℤ → Turn → Type 0
IsEndWith pool ws prices violation (Adds m) = ⊥
IsEndWith pool ws prices violation (Ends end) = (end.prices ≡ prices) × (end.violation ≡ violation) × IsCertificate pool ws end.certificate

module _ (t : ProvisionalTrade) (at : StageAt) where
  abbrev pub IsState : List Member → Type 0
  IsState pool = IsRunState t.trees t.weights t.sets t.goods t.cap at pool

  -- turns of the stage lead from the first pool to the second: a set at a time that may follow
  pub data IsRunFrom : List Member → List Member → Type 0 where
    stays : {pool : List Member} → IsRunFrom pool pool
    adds : {start pool : List Member} {m : Member} → IsRunFrom start pool → MayFollow t.trees t.weights t.sets t.goods t.cap at pool m
        → IsRunFrom start (pool ++ m ∷ [])

  -- the least point at which the trace of the program over the pool ends, with its duals
  pub record IsSolved (pool : List Member) (point duals : List Fraction) : Type 0 where
    pub solved : solution t.trees t.weights t.sets t.goods t.cap at pool ≡ Some point
    pub duals_are : duals_at t.trees t.weights t.sets t.goods t.cap (program_over t at pool) (trace_end (program_over t at pool)) ≡ duals
    pub long : length point ≡ t.goods + 1
    pub low : AreNonNegative point
    pub within : ArePrices t.goods t.cap (solution_prices t.trees t.weights t.sets t.goods t.cap point)
    pub duals_long : length duals ≡ t.goods + length pool
    pub duals_low : AreNonNegative duals

  -- no set is to be added to the pool: the solution's
  -- prices with their violation, and the certificate
  pub record IsStageEnd (pool : List Member) (prices : Prices) (violation : ℤ) (certificate : Certificate) : Type 0 where
    pub point : (x : List Fraction) × (solution t.trees t.weights t.sets t.goods t.cap at pool ≡ Some x)
        × HasNoneToAdd t.trees t.weights t.sets t.goods t.cap at x × (prices ≡ solution_prices t.trees t.weights t.sets t.goods t.cap x)
    pub den_fits : prices.den ≤ 2 ^ 32
    pub lowest : ¬ HasCommonDivisor prices
    pub violates : HasViolation t prices violation
    pub certificate_is : certificate ≡ certificate_at t.trees t.weights t.sets t.goods t.cap at pool
    pub fits : ¬ IsCertificateTooLarge t.trees t.weights t.sets t.goods t.cap at pool
    pub limited : IsLimited certificate

  abbrev pub IsTurn : List Member → Turn → Type 0
  IsTurn pool (Adds m) = MayFollow t.trees t.weights t.sets t.goods t.cap at pool m
  IsTurn pool (Ends end) = IsStageEnd pool end.prices end.violation end.certificate
