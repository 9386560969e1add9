-- The trace of a stage's program ends at a least point with its duals.
use Rattle.std.proofs.Common.{ℕ, suc, ◌≡◌, List, ℤ, pos, ◌≤ℤ◌, refl, subst, arith}
use Rattle.std.specs.Prelude.{Some}
use Rattle.std.proofs.lemmas.Int.{ints}
use Rattle.std.proofs.lemmas.Option.{none-some, same_Some}
use Rattle.ice_defs.specs.Tree.{Tree}
use Rattle.ice_defs.specs.Set.{Weights}
use Rattle.ice_defs.specs.Trade.{Assignment}
use Rattle.ice_defs.specs.Fraction.{Fraction}
use Rattle.ice_defs.specs.Program.{Program, IsLeast, AreDuals}
use Rattle.ice_defs.specs.Trace.{TraceEnd, least_end, infeasible_end, wide_end, pivots_end, trace_end, point_of, duals_of}
use Rattle.ice_defs.specs.PricingLimit.{Stage, accuracy_stage, balance_stage, fairness_stage}
use Rattle.ice_defs.specs.PricingRun.{Member, stage_program, program_at, point_at, duals_at}
use Rattle.ice_program_laws.specs.Laws.{AreCosts}
use Rattle.ice_program_laws.proofs.Ends.{least_end_gives_duals, least_end_gives_least}
use Rattle.ice_pricing_laws.specs.Traces.{TracesSolve}
use Rattle.ice_pricing_laws.proofs.Sizes.{only_at-holds}

module _ (ts : List Tree) (ws : List Weights) (sets : Assignment) (goods : ℕ) (cap : ℤ) where
  -- the number that is made least costs 1, and each price costs 0
  are_costs : (stage : Stage) (delta : ℤ) (den : ℕ) (pool : List Member) → AreCosts (program_at ts ws sets goods cap stage delta den pool)
  are_costs accuracy_stage delta den pool = only_at-holds 1 (omega arith) (λ c. pos 0 ≤ℤ c) (suc goods) goods (pos 1) (omega (arith, ints)) (omega (arith, ints))
  are_costs balance_stage delta den pool = only_at-holds 1 (omega arith) (λ c. pos 0 ≤ℤ c) (suc goods) goods (pos 1) (omega (arith, ints)) (omega (arith, ints))
  are_costs fairness_stage delta den pool = only_at-holds 1 (omega arith) (λ c. pos 0 ≤ℤ c) (suc goods) goods (pos 1) (omega (arith, ints)) (omega (arith, ints))

  solves : (p : Program) (end : TraceEnd) (x : List Fraction) → AreCosts p → trace_end p ≡ end → point_at ts ws sets goods cap p end ≡ Some x
      → IsLeast p x × AreDuals p x (duals_at ts ws sets goods cap p end)
  solves p (least_end count d) x costs ends is =
      subst (λ (y : List Fraction). IsLeast p y × AreDuals p y (duals_of p d)) (same_Some (point_of p d) x is)
      (least_end_gives_least p count d costs ends, (least_end_gives_duals p count d costs ends).1)
  solves p (infeasible_end count d k) x costs ends is = absurd (none-some x is)
  solves p wide_end x costs ends is = absurd (none-some x is)
  solves p pivots_end x costs ends is = absurd (none-some x is)

pub traces_solve : TracesSolve
traces_solve ts ws sets goods cap at pool x is =
    solves ts ws sets goods cap (stage_program ts ws sets goods cap at pool) (trace_end (stage_program ts ws sets goods cap at pool)) x
    (are_costs ts ws sets goods cap at.stage at.delta at.den pool) refl is
