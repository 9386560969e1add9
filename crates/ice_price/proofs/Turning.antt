-- What the turns of a stage lead to.
use Rattle.std.proofs.Common.{ℕ, ◌≡◌, List, map, drop, Some, pos, arith, refl, ap, sym, subst, ◌∙◌}
use Rattle.ice_defs.specs.Fraction.{Fraction, whole_number, times}
use Rattle.ice_defs.specs.Program.{Program, AreDuals, IsInfeasible}
use Rattle.ice_defs.specs.PricingLimit.{Stage, accuracy_stage, balance_stage, fairness_stage}
use Rattle.ice_defs.specs.PricingRun.{Member, StageAt, point_at, duals_at, solution, weight_factor, weights_at, in_lowest_terms}
use Rattle.ice_defs.specs.Trace.{trace_end}
use Rattle.ice_defs.specs.declared.LimitKind.TheVariants.{Wide, Pivots, Rows, Den}
use Rattle.ice_pricing_laws.specs.Ends.{IsRunMarket}
use Rattle.ice_pricing_laws.specs.Weights.{weights_of_duals}
use Rattle.ice_pricing_laws.proofs.Ends.{run_is_feasible, run_is_within}
use Rattle.ice_pricing_laws.proofs.Sizes.{stage_is_shaped}
use Rattle.ice_pricing_laws.proofs.Traces.{traces_solve}
use Rattle.ice_pricing.specs.Provisional.{ProvisionalTrade, IsProvisional}
use Rattle.ice_turns.specs.declared.ends.Stop.{Stop}
use Rattle.ice_turns.specs.declared.ends.Stop.TheVariants.{AtLimit, WithoutMemory}
use Rattle.ice_turns.specs.Solutions.{IsAtEnd, IsStopOf}
use Rattle.ice_price.specs.Ends.{IsStopped}
use Rattle.ice_price.specs.Programs.{program_over, dual_factor}
use Rattle.ice_price.specs.Runs.{IsState, IsSolved}

pub market-of : (t : ProvisionalTrade) → IsProvisional t → IsRunMarket t.trees t.weights t.sets t.goods t.cap
market-of t is = record { bidders = omega (arith, is.bidders.0); satisfied = is.satisfied; not_negative = is.cap_low }

module _ (t : ProvisionalTrade) (at : StageAt) (pool : List Member) where
  abbrev program : Program
  program = program_over t at pool

  solved-is : (x y : List Fraction) → IsProvisional t → IsState t at pool → solution t.trees t.weights t.sets t.goods t.cap at pool ≡ Some x
      → duals_at t.trees t.weights t.sets t.goods t.cap program (trace_end program) ≡ y → IsSolved t at pool x y
  solved-is x y is state solved same =
      let (least, duals) = traces_solve t.trees t.weights t.sets t.goods t.cap at pool x solved in
      let (columns, rows, each) = stage_is_shaped t.trees t.weights t.sets t.goods t.cap at pool in
      let are : AreDuals program x y = subst (AreDuals program x) same duals in
      record {
        solved = solved;
        duals_are = same;
        long = least.point.same_length ∙ columns;
        low = least.point.non_negative;
        within = run_is_within t.trees t.weights t.sets t.goods t.cap at pool x (market-of t is) state solved;
        duals_long = are.same_length ∙ rows;
        duals_low = are.non_negative;
      }

  -- an answer of the solver is the solution
  pub answered : (p : Program) (x y : List Fraction) → p ≡ program → IsAtEnd p x y → IsProvisional t → IsState t at pool → IsSolved t at pool x y
  answered p x y e end is state =
      let own : IsAtEnd program x y = subst (λ q. IsAtEnd q x y) e end in
      solved-is x y is state
      (ap (point_at t.trees t.weights t.sets t.goods t.cap program) own.ends ∙ ap (λ (z : List Fraction). Some z) (sym own.point_is))
      (ap (duals_at t.trees t.weights t.sets t.goods t.cap program) own.ends ∙ sym own.duals_are)

  pub feasible : (p : Program) → p ≡ program → IsProvisional t → IsState t at pool → ¬ IsInfeasible p
  feasible p e is state none = run_is_feasible t.trees t.weights t.sets t.goods t.cap at pool (market-of t is) state (subst IsInfeasible e none)

  -- so is a stop of it
  pub stopped : (p : Program) (stop : Stop) → p ≡ program → IsStopOf p stop → IsStopped t at pool stop
  stopped p (AtLimit Wide) e is = subst (λ q. IsStopOf q (AtLimit Wide)) e is
  stopped p (AtLimit Pivots) e is = subst (λ q. IsStopOf q (AtLimit Pivots)) e is
  stopped p (AtLimit Rows) e is = absurd is
  stopped p (AtLimit Den) e is = absurd is
  stopped p WithoutMemory e is = tt

-- the weights of a stage are those of its duals
pub weights-are : (t : ProvisionalTrade) (at : StageAt) (pool : List Member) (y : List Fraction)
    → duals_at t.trees t.weights t.sets t.goods t.cap (program_over t at pool) (trace_end (program_over t at pool)) ≡ y
    → weights_at t.trees t.weights t.sets t.goods t.cap at pool ≡ weights_of_duals (dual_factor at.stage at.den) (drop t.goods y)
weights-are t at pool y e =
    ap (λ z. map (λ f. in_lowest_terms t.trees t.weights t.sets t.goods t.cap (times (whole_number (pos (weight_factor t.trees t.weights t.sets t.goods t.cap at.stage at.den))) f)) (drop t.goods z)) e
    ∙ ap (λ k. weights_of_duals k (drop t.goods y)) (by at.stage at.den)
  where
    by : (s : Stage) (den : ℕ) → weight_factor t.trees t.weights t.sets t.goods t.cap s den ≡ dual_factor s den
    by accuracy_stage den = refl
    by balance_stage den = refl
    by fairness_stage den = refl
