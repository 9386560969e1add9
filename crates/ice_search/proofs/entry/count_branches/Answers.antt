use Rattle.std.proofs.Common.{ℕ, zero, suc, refl, [], ◌≤◌, arith, length, get_or, drop, ap, sym, ◌∙◌, ◌≡◌, ◌+◌, ◌<◌, ◌∷◌, List, add-one}
use Rattle.std.proofs.Math.Seq.{drop-cons}
use Rattle.ice_defs.specs.Steps.{branch_count}
use Rattle.ice_refute.specs.declared.step.Step.{Step}
use Rattle.ice_refute.specs.Code.{step_of, steps_of}
use Rattle.ice_search.proofs.entry.count_branches.Goals as goal

-- the steps from one on
counted : (items : List Step) (i : ℕ) (x : Step) → i < length items → x ≡ get_or items i x
    → branch_count (steps_of (drop i items)) ≡ branch_count (step_of x ∷ steps_of (drop (i + 1) items))
counted items i x l e =
    ap (λ xs. branch_count (steps_of xs)) (drop-cons items i x l) ∙ ap (λ y. branch_count (step_of y ∷ steps_of (drop (suc i) items))) (sym e)
    ∙ ap (λ j. branch_count (step_of x ∷ steps_of (drop j items))) (sym (add-one i))

past : (items : List Step) (i : ℕ) → length items ≤ i → drop i items ≡ []
past [] zero h = refl
past [] (suc i) h = refl
past (x ∷ items) zero h = absurd (omega (arith, h))
past (x ∷ items) (suc i) h = past items i (omega (arith, h))

pub overflow_add-count : goal.overflow_add-count
overflow_add-count c =
    let items = c.steps-step-items.result.now in
    let next = counted items c.loop-step.step-index c.step-item.result c.loop-step-test.true c.step-item.is in
    omega (arith, next, c.branches_of-count.ensures (steps_of (drop (c.loop-step.step-index + 1) items)), c.loop-step.invariant, c.requires)

pub loop-step-init : goal.loop-step-init
loop-step-init c = omega (arith, ap branch_count c.steps-step-items.ensures)

pub loop-step-preserved : goal.loop-step-preserved
loop-step-preserved c =
    let items = c.steps-step-items.result.now in
    let next = counted items c.loop-step.step-index c.step-item.result c.loop-step-test.true c.step-item.is in
    omega (arith, next, c.branches_of-count.ensures (steps_of (drop (c.loop-step.step-index + 1) items)), c.loop-step.invariant)

pub returns : goal.returns
returns c =
    let items = c.steps-step-items.result.now in
    let none = ap (λ xs. branch_count (steps_of xs)) (past items c.loop-step.step-index c.loop-step-test.false) in
    omega (arith, none, c.loop-step.invariant)
