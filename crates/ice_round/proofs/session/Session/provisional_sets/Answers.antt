use Rattle.std.proofs.Common.{◌≡◌, ◌∙◌, ap, sym, subst}
use Rattle.ice_defs.specs.Weighing.{weighted_weights}
use Rattle.ice_defs.specs.Exchange.{Settings, trees_of}
use Rattle.ice_defs.specs.Conditions.{AreWeightsOf}
use Rattle.ice_bound.proofs.Modest.{weighted_modest}
use Rattle.ice_verdicts.proofs.Bounded.{round_bounds}
use Rattle.ice_round.proofs.session.Session.provisional_sets.Goals as goal

pub search_anew-requires-clause-weights : goal.search_anew-requires-clause-weights
search_anew-requires-clause-weights c =
    let s = c.args.self.now in
    let w = s.exchange.settings.weight in
    let filled : c.fill_weighted-2.new.self ≡ weighted_weights w s.judge.bounds =
    c.fill_weighted-2.ensures.value ∙ ap (λ (x : Settings). weighted_weights x.weight c.bounds.result.now) (c.fill_weighted.view_is ∙ c.settings.ensures) ∙ ap (weighted_weights w) c.bounds.ensures in
    subst (AreWeightsOf (trees_of s.exchange)) (sym filled)
    (weighted_modest w (trees_of s.exchange) s.judge.bounds c.trees.ensures.lawful.settings.weight (round_bounds s.exchange s.judge c.requires.kept.round))
