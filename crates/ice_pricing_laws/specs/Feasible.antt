-- The programs of a pricing run are never infeasible, and their points are prices within the cap.
use Rattle.std.specs.Prelude.{ℕ, List, ℤ, pos, ◌≤ℤ◌}
use Rattle.ice_defs.specs.Tree.{Tree}
use Rattle.ice_defs.specs.Set.{Weights}
use Rattle.ice_defs.specs.Trade.{Assignment}
use Rattle.ice_defs.specs.Prices.{Prices, ArePrices}
use Rattle.ice_defs.specs.Pricing.{IsViolation}
use Rattle.ice_defs.specs.Fraction.{Fraction}
use Rattle.ice_defs.specs.Program.{IsPoint, IsLeast, IsInfeasible}
use Rattle.ice_defs.specs.PricingRun.{Member, accuracy_program, balance_program, solution_prices}
use Rattle.ice_pricing_laws.specs.Laws.{AreMembers}

-- whatever the pool, some point of the accuracy program is
-- feasible: prices of 0 with a large enough violation
abbrev pub AccuracyIsFeasible : Type 0
AccuracyIsFeasible = (ts : List Tree) (ws : List Weights) (sets : Assignment) (goods : ℕ) (cap : ℤ) (pool : List Member)
    → pos 0 ≤ℤ cap → ¬ IsInfeasible (accuracy_program ts ws sets goods cap pool)

-- with the violation of some prices within the cap, a point of the
-- balance program is feasible, whatever members are in the pool
abbrev pub BalanceIsFeasible : Type 0
BalanceIsFeasible =
    (ts : List Tree) (ws : List Weights) (sets : Assignment) (goods : ℕ) (cap : ℤ) (pool : List Member) (p : Prices) (delta : ℤ)
    → AreMembers ts ws sets pool → ArePrices goods cap p → IsViolation ts ws sets p delta
    → ¬ IsInfeasible (balance_program ts ws sets goods cap delta p.den pool)

-- the prices of a point of the accuracy program are within the cap
abbrev pub AccuracyIsWithin : Type 0
AccuracyIsWithin = (ts : List Tree) (ws : List Weights) (sets : Assignment) (goods : ℕ) (cap : ℤ) (pool : List Member) (x : List Fraction)
    → IsPoint (accuracy_program ts ws sets goods cap pool) x → ArePrices goods cap (solution_prices ts ws sets goods cap x)

-- so are those of a least point of the balance program
abbrev pub BalanceIsWithin : Type 0
BalanceIsWithin =
    (ts : List Tree) (ws : List Weights) (sets : Assignment) (goods : ℕ) (cap : ℤ) (pool : List Member) (p : Prices) (delta : ℤ)
    (x : List Fraction)
    → AreMembers ts ws sets pool → ArePrices goods cap p → IsViolation ts ws sets p delta
    → IsLeast (balance_program ts ws sets goods cap delta p.den pool) x → ArePrices goods cap (solution_prices ts ws sets goods cap x)
