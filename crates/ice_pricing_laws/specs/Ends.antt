-- What the states of a pricing run say.
use Rattle.std.specs.Prelude.{ℕ, ◌<◌, ◌≡◌, List, length, ℤ, pos, ◌≤ℤ◌, Some}
use Rattle.ice_defs.specs.Tree.{Tree}
use Rattle.ice_defs.specs.Set.{Weights}
use Rattle.ice_defs.specs.Trade.{Assignment}
use Rattle.ice_defs.specs.Prices.{Prices, ArePrices}
use Rattle.ice_defs.specs.Pricing.{IsViolation, IsAccurate, IsBalanced}
use Rattle.ice_defs.specs.Rows.{Certificate, PassesAccuracy, PassesBalance}
use Rattle.ice_defs.specs.Fraction.{Fraction, Equals}
use Rattle.ice_defs.specs.Program.{IsLeast, IsInfeasible}
use Rattle.ice_defs.specs.PricingRun.{Member, StageAt, first_stage, accuracy_program, stage_program, solution, solution_prices, allowance}
use Rattle.ice_defs.specs.PricingRun.{weights_at, HasNoneToAdd, IsAccurateStage, IsRunState, common_den}
use Rattle.ice_row_laws.specs.Laws.{AreSatisfied}
use Rattle.ice_pricing_laws.specs.Laws.{AreMembers, balance_at}
use Rattle.ice_pricing_laws.specs.Weights.{certificate_with, nums_of}

-- where no set is to be added, the prices of the least point have a violation
abbrev pub LeastHasViolation : Type 0
LeastHasViolation = (ts : List Tree) (ws : List Weights) (sets : Assignment) (goods : ℕ) (cap : ℤ) (pool : List Member) (x : List Fraction)
    → 0 < length ts → AreSatisfied ts sets → AreMembers ts ws sets pool → IsLeast (accuracy_program ts ws sets goods cap pool) x
    → HasNoneToAdd ts ws sets goods cap first_stage x → (v : ℤ) × IsViolation ts ws sets (solution_prices ts ws sets goods cap x) v

-- the certificate of a stage's pool: the weights over
-- their least common denominator, those of 0 left out
abbrev pub certificate_at : List Tree → List Weights → Assignment → ℕ → ℤ → StageAt → List Member → Certificate
certificate_at ts ws sets goods cap at pool =
    certificate_with (common_den (weights_at ts ws sets goods cap at pool)) pool (nums_of (weights_at ts ws sets goods cap at pool))

-- a market of a run: bidders with satisfied sets of their own, and a cap that is not below 0
pub record IsRunMarket (ts : List Tree) (ws : List Weights) (sets : Assignment) (goods : ℕ) (cap : ℤ) : Type 0 where
  pub bidders : 0 < length ts
  pub satisfied : AreSatisfied ts sets
  pub not_negative : pos 0 ≤ℤ cap

-- prices that are accurate, with their violation, and rows that pass the accuracy test
pub record AreCertified (ts : List Tree) (ws : List Weights) (sets : Assignment) (goods : ℕ) (cap : ℤ) (p : Prices) (v : ℤ)
    (c : Certificate) : Type 0 where
  pub violation : IsViolation ts ws sets p v
  pub accurate : IsAccurate ts ws sets goods cap p
  pub passes : PassesAccuracy ts ws sets goods cap p v c

-- where the accuracy stage has no set to add, the prices are
-- accurate, and the stage's certificate passes
abbrev pub AccuracyStageEnds : Type 0
AccuracyStageEnds = (ts : List Tree) (ws : List Weights) (sets : Assignment) (goods : ℕ) (cap : ℤ) (pool : List Member) (x : List Fraction)
    → IsRunMarket ts ws sets goods cap → IsRunState ts ws sets goods cap first_stage pool
    → solution ts ws sets goods cap first_stage pool ≡ Some x
    → HasNoneToAdd ts ws sets goods cap first_stage x
    → (v : ℤ)
    × Equals (record { num = v; den = (solution_prices ts ws sets goods cap x).den }) (allowance ts ws sets goods cap first_stage x)
    × AreCertified ts ws sets goods cap (solution_prices ts ws sets goods cap x) v (certificate_at ts ws sets goods cap first_stage pool)

-- a stage that is past had accurate prices over its denominator, and delta is their violation
abbrev pub AccurateStageGives : Type 0
AccurateStageGives =
    (ts : List Tree) (ws : List Weights) (sets : Assignment) (goods : ℕ) (cap : ℤ) (pool : List Member) (delta : ℤ) (den : ℕ)
    → IsRunMarket ts ws sets goods cap → IsRunState ts ws sets goods cap first_stage pool
    → IsAccurateStage ts ws sets goods cap pool delta den
    → (p : Prices) × (p.den ≡ den) × AreCertified ts ws sets goods cap p delta (certificate_at ts ws sets goods cap first_stage pool)

-- a state of the balance stage comes after one of the accuracy stage
abbrev pub BalanceComesAfter : Type 0
BalanceComesAfter =
    (ts : List Tree) (ws : List Weights) (sets : Assignment) (goods : ℕ) (cap : ℤ) (pool : List Member) (delta : ℤ) (den : ℕ)
    → IsRunState ts ws sets goods cap (balance_at delta den) pool
    → (first : List Member) × IsRunState ts ws sets goods cap first_stage first × IsAccurateStage ts ws sets goods cap first delta den

-- where the balance stage has no set to add, the prices are balanced
-- with the violation delta over den, and both certificates pass
abbrev pub BalanceStageEnds : Type 0
BalanceStageEnds =
    (ts : List Tree) (ws : List Weights) (sets : Assignment) (goods : ℕ) (cap : ℤ) (pool : List Member) (delta : ℤ) (den : ℕ)
    (x : List Fraction) (v : ℤ)
    → IsRunMarket ts ws sets goods cap → IsRunState ts ws sets goods cap (balance_at delta den) pool
    → solution ts ws sets goods cap (balance_at delta den) pool ≡ Some x → HasNoneToAdd ts ws sets goods cap (balance_at delta den) x
    → IsViolation ts ws sets (solution_prices ts ws sets goods cap x) v
    → IsBalanced ts ws sets goods cap (solution_prices ts ws sets goods cap x)
    × Equals (record { num = v; den = (solution_prices ts ws sets goods cap x).den }) (record { num = delta; den = den })
    × PassesBalance ts ws sets goods (solution_prices ts ws sets goods cap x) v
    (certificate_at ts ws sets goods cap (balance_at delta den) pool)
    × ((first : List Member) × IsRunState ts ws sets goods cap first_stage first × IsAccurateStage ts ws sets goods cap first delta den
    × AreCertified ts ws sets goods cap (solution_prices ts ws sets goods cap x) v (certificate_at ts ws sets goods cap first_stage first))

-- no program of a run is infeasible
abbrev pub RunIsFeasible : Type 0
RunIsFeasible = (ts : List Tree) (ws : List Weights) (sets : Assignment) (goods : ℕ) (cap : ℤ) (at : StageAt) (pool : List Member)
    → IsRunMarket ts ws sets goods cap → IsRunState ts ws sets goods cap at pool
    → ¬ IsInfeasible (stage_program ts ws sets goods cap at pool)

-- the prices of each solution of a run are within the cap
abbrev pub RunIsWithin : Type 0
RunIsWithin = (ts : List Tree) (ws : List Weights) (sets : Assignment) (goods : ℕ) (cap : ℤ) (at : StageAt) (pool : List Member)
    (x : List Fraction)
    → IsRunMarket ts ws sets goods cap → IsRunState ts ws sets goods cap at pool → solution ts ws sets goods cap at pool ≡ Some x
    → ArePrices goods cap (solution_prices ts ws sets goods cap x)
