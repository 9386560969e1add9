-- Logs that are read from behind.
use Rattle.std.proofs.Common.{◌≡◌, ℕ, suc, ◌<◌, List, [], ◌∷◌, ◌++◌, length, drop, get_or, reverse, refl, ap, sym, ◌∙◌}
use Rattle.std.proofs.Math.Seq.{drop-cons}
use Rattle.std.proofs.lemmas.List.{reverse-append}
use Rattle.ice_defs.specs.Steps as steps
use Rattle.ice_defs.specs.Steps.{branch, leaf, dead}
use Rattle.ice_refute.specs.declared.step.Step.{Step}
use Rattle.ice_refute.specs.Code.{step_of, steps_of}
use Rattle.ice_plan.specs.declared.plan.Split.{Split}
use Rattle.ice_plan.specs.Arena.{nodes_of}
use Rattle.ice_planner.specs.Branches.{branch_of, branches_of}

-- the steps from one on
steps_from : (items : List Step) (i : ℕ) (x : Step) → i < length items → x ≡ get_or items i x
    → steps_of (drop i items) ≡ step_of x ∷ steps_of (drop (suc i) items)
steps_from items i x l e =
    ap steps_of (drop-cons items i x l) ∙ ap (λ y. step_of y ∷ steps_of (drop (suc i) items)) (sym e)

-- a step has one node at most
same_back : (s : steps.Step) → reverse (branch_of s) ≡ branch_of s
same_back (branch b n) = refl
same_back (leaf m) = refl
same_back (dead b) = refl

back : (s : steps.Step) (rest : List steps.Step) → reverse (branches_of (s ∷ rest)) ≡ reverse (branches_of rest) ++ branch_of s
back s rest = reverse-append (branch_of s) (branches_of rest) ∙ ap (λ xs. reverse (branches_of rest) ++ xs) (same_back s)

past : (items : List Step) → drop (length items) items ≡ []
past [] = refl
past (x ∷ items) = past items

-- no step is read yet
pub none_read : (items : List Step) (m : ℕ) (plan : List Split) → plan ≡ [] → m ≡ length items → nodes_of plan ≡ reverse (branches_of (steps_of (drop m items)))
none_read items m plan none e =
    ap nodes_of none ∙ sym (ap (λ k. reverse (branches_of (steps_of (drop k items)))) e ∙ ap (λ xs. reverse (branches_of (steps_of xs))) (past items))

-- one more step is read
pub one_read : (items : List Step) (n m : ℕ) (x : Step) (old new : List Split) → m ≡ suc n → n < length items → x ≡ get_or items n x
    → nodes_of old ≡ reverse (branches_of (steps_of (drop m items))) → nodes_of new ≡ nodes_of old ++ branch_of (step_of x)
    → nodes_of new ≡ reverse (branches_of (steps_of (drop n items)))
one_read items n m x old new e l is before added =
    added ∙ ap (λ ns. ns ++ branch_of (step_of x)) (before ∙ ap (λ k. reverse (branches_of (steps_of (drop k items)))) e)
    ∙ sym (back (step_of x) (steps_of (drop (suc n) items)))
    ∙ sym (ap (λ ss. reverse (branches_of ss)) (steps_from items n x l is))

-- all are read
pub all_read : (items : List Step) (m : ℕ) (plan : List Split) (log : List steps.Step) → m ≡ 0 → steps_of items ≡ log
    → nodes_of plan ≡ reverse (branches_of (steps_of (drop m items))) → nodes_of plan ≡ reverse (branches_of log)
all_read items m plan log e same read =
    read ∙ ap (λ k. reverse (branches_of (steps_of (drop k items)))) e ∙ ap (λ ss. reverse (branches_of ss)) same
