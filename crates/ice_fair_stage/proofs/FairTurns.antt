-- What the turns of the fairness stage lead to.
use Rattle.std.proofs.Common.{ℕ, ◌<◌, ◌≤◌, ◌≡◌, ◌^◌, inl, inr, List, length, Some, ℤ, ap, sym, subst, ◌∙◌}
use Rattle.ice_defs.specs.Fraction.{Fraction, IsFraction, Equals}
use Rattle.ice_defs.specs.Prices.{Prices}
use Rattle.ice_defs.specs.Program.{Program, AreDuals, IsInfeasible}
use Rattle.ice_defs.specs.PricingRun.{Member, point_at, duals_at}
use Rattle.ice_defs.specs.Trace.{trace_end}
use Rattle.ice_defs.specs.declared.LimitKind.TheVariants.{Wide, Pivots, Rows, Den}
use Rattle.ice_pricing_laws.specs.Laws.{AreMembers}
use Rattle.ice_pricing.specs.Provisional.{ProvisionalTrade, IsProvisional}
use Rattle.ice_turns.specs.declared.ends.Stop.{Stop}
use Rattle.ice_turns.specs.declared.ends.Stop.TheVariants.{AtLimit, WithoutMemory}
use Rattle.ice_turns.specs.Large.{AreLarge, IsStoppedBy}
use Rattle.ice_turns.specs.Scans.{AreAllowed, IsFirstAbove}
use Rattle.ice_turns.specs.Solutions.{IsAtEnd, IsStopOf}
use Rattle.ice_turns.specs.Steps.{IsStepStop}
use Rattle.ice_turns.proofs.Scanning.{none-to-add, first-violates, first-best, none-before}
use Rattle.ice_fair_laws.specs.FairRun.{fairness_at, fairness_program, fair_solution, fair_weights, HasNoneForFair, MayFollowFair}
use Rattle.ice_fair_laws.specs.Run.{IsFairMarket, prices_at}
use Rattle.ice_fair_laws.proofs.Fairs.{fair_traces_solve, fair_is_within, fair_is_feasible, fair_pool_is_proper}
use Rattle.ice_fair_laws.proofs.Turns.{fair_is_shaped}
use Rattle.ice_fair_stage.specs.Certified.{weights_at}
use Rattle.ice_fair_stage.specs.Stages.{FairStage, paid, IsStage, IsState, IsSolved, program_over}
use Rattle.ice_fair_stage.specs.Turns.{IsStopped}

-- the accurate prices over the stage's denominator make a market of it
pub record HasMarket (t : ProvisionalTrade) (at : FairStage) : Type 0 where
  pub prices : Prices
  pub den : prices.den ≡ at.den
  pub market : IsFairMarket (paid t at) at.cut prices at.delta

pub market-of : (t : ProvisionalTrade) (at : FairStage) → IsProvisional t → IsStage t at → HasMarket t at
market-of t at is stage =
    let (p, accurate, violation, e) = stage.accurate in
    record {
      prices = p;
      den = e;
      market = record {
        paid = stage.payments.paid;
        cut = stage.payments.cut_den;
        not_negative = is.cap_low;
        accurate = accurate;
        violation = violation;
      };
    }

module _ (t : ProvisionalTrade) (at : FairStage) (pool : List Member) where
  abbrev program : Program
  program = program_over t at pool

  -- the members of a pool at the start of a turn
  pub proper-pool : IsState t at pool → AreMembers t.trees t.weights t.sets pool × (length pool ≤ 200)
  proper-pool state = fair_pool_is_proper (paid t at) at.cut at.delta at.den pool state.pool_is

  solved-is : (x y : List Fraction) → fair_solution (paid t at) at.cut at.delta at.den pool ≡ Some x
      → duals_at t.trees t.weights t.sets t.goods t.cap program (trace_end program) ≡ y → IsSolved t at pool x y
  solved-is x y solved same =
      let (least, duals) = fair_traces_solve (paid t at) at.cut at.delta at.den pool x solved in
      let (columns, rows, each) = fair_is_shaped (paid t at) at.cut at.delta at.den pool in
      let are : AreDuals program x y = subst (AreDuals program x) same duals in
      record {
        solved = solved;
        duals_are = same;
        long = least.point.same_length ∙ columns;
        low = least.point.non_negative;
        within = fair_is_within (paid t at) at.cut at.delta at.den pool x least.point;
        duals_long = are.same_length ∙ rows;
        duals_low = are.non_negative;
      }

  -- an answer of the solver is the solution
  pub answered : (p : Program) (x y : List Fraction) → p ≡ program → IsAtEnd p x y → IsSolved t at pool x y
  answered p x y e end =
      let own : IsAtEnd program x y = subst (λ q. IsAtEnd q x y) e end in
      solved-is x y
      (ap (point_at t.trees t.weights t.sets t.goods t.cap program) own.ends ∙ ap (λ (z : List Fraction). Some z) (sym own.point_is))
      (ap (duals_at t.trees t.weights t.sets t.goods t.cap program) own.ends ∙ sym own.duals_are)

  pub feasible : (p : Program) → p ≡ program → IsProvisional t → IsState t at pool → ¬ IsInfeasible p
  feasible p e is state none =
      let m = market-of t at is state.stage in
      let same : fairness_program (paid t at) at.cut at.delta at.den pool ≡ fairness_program (paid t at) at.cut at.delta m.prices.den pool =
      ap (λ d. fairness_program (paid t at) at.cut at.delta d pool) (sym m.den) in
      fair_is_feasible (paid t at) at.cut m.prices at.delta pool m.market (proper-pool state).0 (subst IsInfeasible (e ∙ same) none)

  -- so is a stop of it
  pub stopped : (p : Program) (stop : Stop) → p ≡ program → IsStopOf p stop → IsStopped t at pool stop
  stopped p (AtLimit Wide) e is = subst (λ q. IsStopOf q (AtLimit Wide)) e is
  stopped p (AtLimit Pivots) e is = subst (λ q. IsStopOf q (AtLimit Pivots)) e is
  stopped p (AtLimit Rows) e is = absurd is
  stopped p (AtLimit Den) e is = absurd is
  stopped p WithoutMemory e is = tt

-- what a scan with the stage's violation leads to
module _ (t : ProvisionalTrade) (at : FairStage) (pool : List Member) (x y : List Fraction) (is : IsSolved t at pool x y) (p : Prices) (same : p ≡ prices_at (paid t at) x)
    (most : Fraction) (proper : IsFraction most) (positive : 0 < at.den) (equal : Equals most (record { num = at.delta; den = at.den })) where
  here : (Q : Prices → Type 0) → Q p → Q (prices_at (paid t at) x)
  here Q h = subst Q same h

  pub adds : (m : Member) → length pool < 200 → p.den ≤ 2 ^ 32 → IsFirstAbove t p most m → MayFollowFair (paid t at) at.cut at.delta at.den pool m
  adds m room few first =
      let own = here (λ q. IsFirstAbove t q most m) first in
      record {
        room = room;
        solved = (
          x,
          is.solved,
          here (λ (q : Prices). q.den ≤ 2 ^ 32) few,
          first-violates t (fairness_at at.delta at.den) x most proper positive equal m own,
          first-best t (fairness_at at.delta at.den) x most proper positive equal m own,
          none-before t (fairness_at at.delta at.den) x most proper positive equal m own,
        );
      }

  pub none-left : AreAllowed t p most (length t.trees) → HasNoneForFair (paid t at) at.cut at.delta at.den x
  none-left are = none-to-add t (fairness_at at.delta at.den) x most proper positive equal (here (λ q. AreAllowed t q most (length t.trees)) are)

  -- a stop of the step is the turn's
  pub step-stops : (stop : Stop) → IsStepStop t (length pool) p most stop → IsStopped t at pool stop
  step-stops (AtLimit Wide) h = absurd h
  step-stops (AtLimit Pivots) h = absurd h
  step-stops (AtLimit Rows) (full, m, first) =
      (full, x, m, is.solved, first-violates t (fairness_at at.delta at.den) x most proper positive equal m (here (λ q. IsFirstAbove t q most m) first))
  step-stops (AtLimit Den) big = (x, is.solved, inl (here (λ (q : Prices). 2 ^ 32 < q.den) big))
  step-stops WithoutMemory h = absurd h

  -- the weights are those of the solution's duals
  pub same-weights : weights_at t at y ≡ fair_weights (paid t at) at.cut at.delta at.den pool
  same-weights = ap (weights_at t at) (sym is.duals_are)

  pub stops : AreAllowed t p most (length t.trees) → (stop : Stop) → IsStoppedBy (AreLarge (2 ^ 24) (weights_at t at y)) stop → IsStopped t at pool stop
  stops are (AtLimit kind) (e, large) =
      let at_den : IsStopped t at pool (AtLimit Den) = (x, is.solved, inr (none-left are, subst (AreLarge (2 ^ 24)) same-weights large)) in
      subst (λ k. IsStopped t at pool (AtLimit k)) (sym e) at_den
  stops are WithoutMemory h = tt

-- an excess that is allowed, where the code keeps its numbers
pub equal-at : (most : Fraction) (num delta : ℤ) (place den : ℕ) → num ≡ delta → place ≡ den → Equals most (record { num = num; den = place }) → Equals most (record { num = delta; den = den })
equal-at most num delta place den e f h =
    subst (λ (d : ℕ). Equals most (record { num = delta; den = d })) f (subst (λ (z : ℤ). Equals most (record { num = z; den = place })) e h)
