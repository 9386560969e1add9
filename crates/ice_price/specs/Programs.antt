-- The rows of a stage's program, one by one.
use Rattle.std.specs.Prelude.{ℕ, suc, ◌*◌, List, [], ◌∷◌, ◌++◌, replicate, slice_set, ℤ, pos, neg_ℤ, ◌-ℤ◌, ◌*ℤ◌}
use Rattle.ice_defs.specs.Fraction.{Fraction}
use Rattle.ice_defs.specs.Program.{Constraint, Program}
use Rattle.ice_defs.specs.PricingLimit.{Stage, accuracy_stage, balance_stage, fairness_stage}
use Rattle.ice_defs.specs.PricingRun.{Member, StageAt, only_at, units_above, worth_above, stage_program}
use Rattle.ice_pricing.specs.Provisional.{ProvisionalTrade}

-- what a good's row has beside the price of the good
abbrev pub no_price : Stage → ℕ → List ℤ
no_price accuracy_stage goods = replicate (suc goods) (pos 0)
no_price balance_stage goods = only_at (suc goods) goods (pos 1)
no_price fairness_stage goods = only_at (suc goods) goods (pos 1)

abbrev pub good_least : Stage → ℤ → ℤ
good_least accuracy_stage cap = neg_ℤ cap
good_least balance_stage cap = pos 0
good_least fairness_stage cap = pos 0

-- what a unit of a good counts in a member's row
abbrev pub unit_factor : Stage → ℕ → ℕ
unit_factor accuracy_stage den = 100
unit_factor balance_stage den = 100 * den
unit_factor fairness_stage den = 100 * den

-- what the last column counts there
abbrev pub last_factor : Stage → ℤ
last_factor accuracy_stage = pos 1
last_factor balance_stage = pos 0
last_factor fairness_stage = pos 0

abbrev pub member_least : Stage → ℤ → ℕ → ℤ → ℤ
member_least accuracy_stage delta den worth = worth
member_least balance_stage delta den worth = (pos den *ℤ worth) -ℤ delta
member_least fairness_stage delta den worth = (pos den *ℤ worth) -ℤ delta

-- by what a dual is multiplied to make it a weight
abbrev pub dual_factor : Stage → ℕ → ℕ
dual_factor accuracy_stage den = 1
dual_factor balance_stage den = 100 * den
dual_factor fairness_stage den = den

-- the excess that is allowed: the last number of the solution, or the one of the accuracy stage
abbrev pub allowed_excess : Stage → Fraction → Fraction → Fraction
allowed_excess accuracy_stage later last = last
allowed_excess balance_stage later last = later
allowed_excess fairness_stage later last = later

module _ (t : ProvisionalTrade) (at : StageAt) where
  abbrev pub good_row : ℕ → Constraint
  good_row g = record { coeffs = slice_set (no_price at.stage t.goods) g (neg_ℤ (pos 1)); least = good_least at.stage t.cap }

  abbrev pub member_row : Member → Constraint
  member_row m = record {
    coeffs = units_above t.trees t.weights t.sets t.goods t.cap (pos (unit_factor at.stage at.den)) m ++ last_factor at.stage ∷ [];
    least = member_least at.stage at.delta at.den (worth_above t.trees t.weights t.sets t.goods t.cap m);
  }

  abbrev pub program_over : List Member → Program
  program_over pool = stage_program t.trees t.weights t.sets t.goods t.cap at pool
