use Rattle.std.proofs.Common.{◌∙◌, ap, sym, subst, IfOk, IfErr}
use Rattle.std.proofs.lemmas.Result.{IfOk-weaker}
use Rattle.ice_defs.specs.Trade.{IsFeasible, MeetsAll}
use Rattle.ice_defs.specs.Group.{free_side, empty_sets}
use Rattle.ice_defs.specs.Exchange.{trees_of, exact_of}
use Rattle.ice_defs.proofs.EmptySets.{empty_feasible}
use Rattle.ice_defs.proofs.Starts.{meets_free_side}
use Rattle.ice_search.specs.Instance.{Instance, IsBestOf}
use Rattle.ice_search.specs.Results.{IsFoundBy, IsEnd}
use Rattle.ice_search.proofs.Freely.{asked_anew, best_of_all}
use Rattle.ice_search.proofs.entry.search_anew.Goals as goal

pub new-problem-requires-clause-feasible : goal.new-problem-requires-clause-feasible
new-problem-requires-clause-feasible c =
    let ex = c.args.exchange.now in
    subst (IsFeasible (trees_of ex) (exact_of ex)) (sym (c.in_ok-empty.ensures ∙ ap empty_sets c.trees-trees.ensures.value)) (empty_feasible (trees_of ex) (exact_of ex))

pub new-problem-requires-clause-meets : goal.new-problem-requires-clause-meets
new-problem-requires-clause-meets c =
    let ex = c.args.exchange.now in
    subst (MeetsAll c.in_ok-empty.empty) (sym (c.in_ok-start.ensures ∙ ap free_side c.trees-trees.ensures.value)) (meets_free_side (trees_of ex) c.in_ok-empty.empty)

pub returns-clause-found : goal.returns-clause-found
returns-clause-found c =
    let asked = asked_anew c.args.exchange.now c.args.weights.now c.trees-trees.ensures.value c.in_ok-start.ensures c.in_ok-empty.ensures c.new-problem.ensures in
    subst (λ (x : Instance). IfOk c.search.result (IsFoundBy x)) asked c.search.ensures.found

pub returns-clause-best : goal.returns-clause-best
returns-clause-best c =
    let asked = asked_anew c.args.exchange.now c.args.weights.now c.trees-trees.ensures.value c.in_ok-start.ensures c.in_ok-empty.ensures c.new-problem.ensures in
    IfOk-weaker c.search.result _ _
    (λ f h. best_of_all c.args.exchange.now c.args.weights.now f.value (subst (λ (x : Instance). IsBestOf x f.value) asked h))
    c.search.ensures.best

pub returns-clause-end : goal.returns-clause-end
returns-clause-end c =
    let asked = asked_anew c.args.exchange.now c.args.weights.now c.trees-trees.ensures.value c.in_ok-start.ensures c.in_ok-empty.ensures c.new-problem.ensures in
    subst (λ (x : Instance). IfErr c.search.result (IsEnd x c.args.branches.now c.search.new.branches)) asked c.search.ensures.end
