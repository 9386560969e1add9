-- The loop over the steps of a log.
use Rattle.std.proofs.Common.{ℕ, suc, ◌+◌, ◌<◌, ◌≤◌, ◌≡◌, Bool, true, false, List, [], ◌∷◌, length, get_or, drop, reverse, ℤ, ap, sym, ◌∙◌, subst, drop-cons, add-one}
use Rattle.std.specs.List.{AllByRecursion}
use Rattle.std.proofs.lemmas.List.{drop-map, length-map}
use Rattle.std.proofs.Math.ListN.{drop_of_length-le}
use Rattle.ice_defs.specs.Tree.{Tree}
use Rattle.ice_defs.specs.Set.{Weights}
use Rattle.ice_defs.specs.Derived.{goods_alone}
use Rattle.ice_defs.specs.Steps.{Step, Side, sides_after}
use Rattle.ice_defs.specs.Log.{Passes}
use Rattle.ice_refute.specs.declared.step.Step.{Step as CodeStep}
use Rattle.ice_refute.specs.declared.fault.LogFault.TheVariants as faults
use Rattle.ice_refute.specs.declared.fault.StepFault.{StepFault}
use Rattle.ice_refute.specs.Code.{step_of, steps_of, CountsGoods}
use Rattle.ice_refute.specs.Passing.{PassesAt, HasFault}
use Rattle.ice_refute.specs.Faults.{IsLogFault}
use Rattle.ice_refute.specs.Waiting.{open_sides, waiting_sides}
use Rattle.ice_refute.proofs.Reading.{Stands, stands_more, stands_fault, stands_long, stands_short, stands_closed}

-- the steps from the next one on
pub next_step : (items : List CodeStep) (log : List Step) (k : ℕ) (item : CodeStep) → steps_of items ≡ log → k < length items → item ≡ get_or items k item
    → drop k log ≡ step_of item ∷ drop (k + 1) log
next_step items log k item e h is =
    ap (drop k) (sym e) ∙ drop-map step_of k items ∙ ap steps_of (drop-cons items k item h) ∙ ap (λ i. step_of i ∷ steps_of (drop (suc k) items)) (sym is)
    ∙ ap (λ r. step_of item ∷ r) (sym (drop-map step_of (suc k) items) ∙ ap (drop (suc k)) e ∙ ap (λ j. drop j log) (sym (add-one k)))

pub length-log : (items : List CodeStep) (log : List Step) → steps_of items ≡ log → length log ≡ length items
length-log items log e = ap length (sym e) ∙ length-map items step_of

pub next_counts : (goods k : ℕ) (log : List Step) (step : Step) → drop k log ≡ step ∷ drop (k + 1) log → AllByRecursion (CountsGoods goods) (drop k log)
    → CountsGoods goods step × AllByRecursion (CountsGoods goods) (drop (k + 1) log)
next_counts goods k log step e all = subst (AllByRecursion (CountsGoods goods)) e all

no_steps : (log : List Step) (k : ℕ) → length log ≤ k → drop k log ≡ []
no_steps log k h = drop_of_length-le log h

module _ (ts : List Tree) (exact : List Bool) (ws : List Weights) (target : ℤ) (start : Side) (log : List Step) where
  -- the log stands at its step k with these marks and branches
  pub record StandsAt (is_open : Bool) (marks : Side) (branches : List (ℕ × ℕ)) (k : ℕ) : Type 0 where
    pub stands : Stands goods_alone ts exact ws target start log (open_sides is_open marks branches) (drop k log)

  pub long_at : (is_open : Bool) (marks : Side) (branches : List (ℕ × ℕ)) (k : ℕ) → k < length log → is_open ≡ false → StandsAt is_open marks branches k
      → IsLogFault goods_alone ts exact ws target start log (faults.Long k)
  long_at is_open marks branches k h e is =
      stands_long goods_alone ts exact ws target start log k h (subst (λ b. Stands goods_alone ts exact ws target start log (open_sides b marks branches) (drop k log)) e is.stands)

  pub short_at : (is_open : Bool) (marks : Side) (branches : List (ℕ × ℕ)) (k : ℕ) → length log ≤ k → is_open ≡ true → StandsAt is_open marks branches k
      → IsLogFault goods_alone ts exact ws target start log faults.Short
  short_at is_open marks branches k h e is =
      stands_short goods_alone ts exact ws target start log marks (waiting_sides marks (reverse branches))
      (subst (λ r. Stands goods_alone ts exact ws target start log (open_sides true marks branches) r) (no_steps log k h)
      (subst (λ b. Stands goods_alone ts exact ws target start log (open_sides b marks branches) (drop k log)) e is.stands))

  pub closed_at : (is_open : Bool) (marks : Side) (branches : List (ℕ × ℕ)) (k : ℕ) → length log ≤ k → is_open ≡ false → StandsAt is_open marks branches k
      → Passes ts exact ws target start log
  closed_at is_open marks branches k h e is =
      stands_closed goods_alone ts exact ws target start log
      (subst (λ r. Stands goods_alone ts exact ws target start log [] r) (no_steps log k h)
      (subst (λ b. Stands goods_alone ts exact ws target start log (open_sides b marks branches) (drop k log)) e is.stands))

  pub more_at : (is_open : Bool) (marks : Side) (branches : List (ℕ × ℕ)) (k : ℕ) (step : Step) (still_open : Bool) (marks' : Side) (branches' : List (ℕ × ℕ)) → is_open ≡ true
      → drop k log ≡ step ∷ drop (k + 1) log → PassesAt ts exact ws target marks step → open_sides still_open marks' branches' ≡ sides_after (open_sides true marks branches) step
      → StandsAt is_open marks branches k → StandsAt still_open marks' branches' (k + 1)
  more_at is_open marks branches k step still_open marks' branches' o e passes sides is = record {
    stands = subst (λ s. Stands goods_alone ts exact ws target start log s (drop (k + 1) log)) (sym sides)
        (stands_more goods_alone ts exact ws target start log marks (waiting_sides marks (reverse branches)) step (drop (k + 1) log) passes
        (subst (λ r. Stands goods_alone ts exact ws target start log (open_sides true marks branches) r) e
        (subst (λ b. Stands goods_alone ts exact ws target start log (open_sides b marks branches) (drop k log)) o is.stands)));
  }

  pub fault_at : (is_open : Bool) (marks : Side) (branches : List (ℕ × ℕ)) (k : ℕ) (step : Step) (fault : StepFault) → is_open ≡ true → k < length log
      → drop k log ≡ step ∷ drop (k + 1) log → HasFault ts exact ws target marks step fault → StandsAt is_open marks branches k
      → IsLogFault goods_alone ts exact ws target start log (faults.At k fault)
  fault_at is_open marks branches k step fault o h e has is =
      stands_fault goods_alone ts exact ws target start log marks (waiting_sides marks (reverse branches)) step (drop (k + 1) log) fault k h e has
      (subst (λ r. Stands goods_alone ts exact ws target start log (open_sides true marks branches) r) e
      (subst (λ b. Stands goods_alone ts exact ws target start log (open_sides b marks branches) (drop k log)) o is.stands))
