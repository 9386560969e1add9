use Rattle.std.proofs.Common.{arith, subst, refl, ◌≡◌}
use Rattle.ice_defs.specs.Steps.{branch_count}
use Rattle.ice_search_log.proofs.Found.{found_is_best}
use Rattle.ice_search.specs.Ended.{HasEnded}
use Rattle.ice_search.specs.Instance.{Instance}
use Rattle.ice_search.specs.Results.{proved_found, IsFoundBy, IsSpentBy}
use Rattle.ice_search.proofs.entry.go_on.Goals as goal

pub returns-in_ok-found-in-Whole-clause-best : goal.returns-in_ok-found-in-Whole-clause-best
returns-in_ok-found-in-Whole-clause-best c =
    let x = c.args.begun.instance in
    let f = c.in_ok-found-in-Whole.found in
    let is = subst (λ (y : Instance). IsFoundBy y f) c.in_ok-run.ensures.instance c.in_ok-found-in-Whole.ensures.found in
    found_is_best x.trees x.exact x.weights x.start x.first (proved_found f) is.written.counts is.found

pub returns-in_ok-spent-in-Spent-clause-end : goal.returns-in_ok-spent-in-Spent-clause-end
returns-in_ok-spent-in-Spent-clause-end c =
    let x = c.args.begun.instance in
    let spent = c.in_ok-spent-in-Spent.spent in
    let none = (subst (HasEnded c.run.new.progress c.run.new.left) c.in-Spent.is c.in_ok-run.ensures.ended).0 in
    let count : branch_count spent.log ≡ c.args.branches.now = omega (arith, none, c.in_ok-spent-in-Spent.ensures.branches, c.in_ok-run.ensures.count, c.requires.parts) in
    (subst (λ n. IsSpentBy x n spent) count (subst (λ y. IsSpentBy y (branch_count spent.log) spent) c.in_ok-run.ensures.instance c.in_ok-spent-in-Spent.ensures.spent), refl)
