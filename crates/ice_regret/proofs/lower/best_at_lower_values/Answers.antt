use Rattle.std.proofs.Common.{sym, subst, IfOk, IfErr, List}
use Rattle.ice_defs.specs.Set.{Weights}
use Rattle.ice_defs.specs.Exchange.{trees_of, exact_of}
use Rattle.ice_defs.specs.Trade.{IsBestOfAll}
use Rattle.ice_defs.specs.Conditions.{AreWeightsOf}
use Rattle.ice_bound.proofs.Modest.{lower_modest}
use Rattle.ice_search.specs.Instance.{empty_search}
use Rattle.ice_search.specs.Results.{IsFoundBy, IsEnd}
use Rattle.ice_search.specs.declared.results.Found.{Found}
use Rattle.ice_regret.proofs.lower.best_at_lower_values.Goals as goal

pub search_anew-requires-clause-weights : goal.search_anew-requires-clause-weights
search_anew-requires-clause-weights c =
    subst (AreWeightsOf (trees_of c.args.exchange.now)) (sym c.fill_lower.ensures.value) (lower_modest (trees_of c.args.exchange.now) c.args.bounds.now c.requires.bounds)

pub returns-clause-found : goal.returns-clause-found
returns-clause-found c =
    subst (λ (w : List Weights). IfOk c.search_anew.result (IsFoundBy (empty_search c.args.exchange.now w))) c.fill_lower.ensures.value c.search_anew.ensures.found

pub returns-clause-best : goal.returns-clause-best
returns-clause-best c =
    let ex = c.args.exchange.now in
    subst (λ (w : List Weights). IfOk c.search_anew.result (λ (f : Found). IsBestOfAll (trees_of ex) (exact_of ex) w f.value)) c.fill_lower.ensures.value c.search_anew.ensures.best

pub returns-clause-end : goal.returns-clause-end
returns-clause-end c =
    subst (λ (w : List Weights). IfErr c.search_anew.result (IsEnd (empty_search c.args.exchange.now w) c.args.branches.now c.search_anew.new.branches))
    c.fill_lower.ensures.value c.search_anew.ensures.end
