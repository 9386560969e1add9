-- The fairness stage of a trade: its programs, its states and its solutions.
use Rattle.std.specs.Prelude.{ℕ, suc, ◌+◌, ◌*◌, ◌≡◌, List, ◌∷◌, ◌++◌, [], length, map, ℤ, pos, neg_ℤ, ◌*ℤ◌, Some}
use Rattle.ice_defs.specs.Sum.{numbers_below}
use Rattle.ice_defs.specs.Set.{units}
use Rattle.ice_defs.specs.Trade.{tree_of, set_of}
use Rattle.ice_defs.specs.Fraction.{Fraction}
use Rattle.ice_defs.specs.Prices.{ArePrices}
use Rattle.ice_defs.specs.Program.{Constraint, Program, AreNonNegative}
use Rattle.ice_defs.specs.PricingRun.{Member, only_at}
use Rattle.ice_pricing.specs.Provisional.{ProvisionalTrade}
use Rattle.ice_turns.specs.Stages.{IsSizedStage}
use Rattle.ice_fair_laws.specs.Fair.{PaidTrade}
use Rattle.ice_fair_laws.specs.FairRun.{fairness_at, fairness_program, fair_solution, fair_duals, bidder_rows, member_row, IsFairPool}
use Rattle.ice_fair_laws.specs.Run.{prices_at}
use Rattle.ice_fair_stage.specs.Paid.{paid_with, ArePayments, HasAccurate}

-- what bidders pay, a multiple of its denominators, and the
-- violation of accurate prices over their denominator
pub record FairStage : Type 0 where
  pub payments : List Fraction
  pub cut : ℕ
  pub delta : ℤ
  pub den : ℕ

-- a list of rows more, behind the others
abbrev pub with_rows : Program → List Constraint → Program
with_rows p rows = record { costs = p.costs; rows = p.rows ++ rows }

module _ (t : ProvisionalTrade) where
  -- the row of a good
  abbrev pub good_row : ℕ → Constraint
  good_row g = record { coeffs = only_at (suc t.goods) g (neg_ℤ (pos 1)); least = neg_ℤ t.cap }

  -- the units of a bidder's own set, good by good, times a factor
  abbrev pub units_of : ℤ → ℕ → List ℤ
  units_of factor b = map (λ g. factor *ℤ units (tree_of t.trees b) (set_of t.sets b) g) (numbers_below t.goods)

  -- a row of that set
  abbrev pub set_row : ℕ → ℕ → ℤ → ℤ → Constraint
  set_row b last factor least = record { coeffs = units_of factor b ++ pos last ∷ []; least = least }

module _ (t : ProvisionalTrade) (at : FairStage) where
  abbrev pub paid : PaidTrade
  paid = paid_with t at.payments

  pub record IsStage : Type 0 where
    pub payments : ArePayments t at.cut at.payments
    pub accurate : HasAccurate t at.payments at.delta at.den
    pub sized : IsSizedStage (fairness_at at.delta at.den)

  -- the rows of a bidder and of a member
  abbrev pub rows_of : ℕ → List Constraint
  rows_of b = bidder_rows paid at.cut at.delta at.den b

  abbrev pub row_of : Member → Constraint
  row_of m = member_row paid at.cut at.delta at.den m

  abbrev pub program_over : List Member → Program
  program_over pool = fairness_program paid at.cut at.delta at.den pool

  -- a pool at the start of a turn
  pub record IsState (pool : List Member) : Type 0 where
    pub stage : IsStage
    pub pool_is : IsFairPool paid at.cut at.delta at.den pool

  -- the least point at which the trace of the program over the pool ends, with its duals
  pub record IsSolved (pool : List Member) (point duals : List Fraction) : Type 0 where
    pub solved : fair_solution paid at.cut at.delta at.den pool ≡ Some point
    pub duals_are : fair_duals paid at.cut at.delta at.den pool ≡ duals
    pub long : length point ≡ t.goods + 1
    pub low : AreNonNegative point
    pub within : ArePrices t.goods t.cap (prices_at paid point)
    pub duals_long : length duals ≡ t.goods + (2 * length t.trees + length pool)
    pub duals_low : AreNonNegative duals
