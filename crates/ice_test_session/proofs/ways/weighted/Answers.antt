use Rattle.std.proofs.Common.{sym, ◌∙◌, ap, subst, List}
use Rattle.ice_defs.specs.Bounds.{Bounds}
use Rattle.ice_defs.specs.Exchange.{trees_of, opening_bounds}
use Rattle.ice_defs.specs.Weighing.{weighted_weights}
use Rattle.ice_defs.specs.Conditions.{AreWeightsOf}
use Rattle.ice_bound.proofs.Living.{opening_are_bounds}
use Rattle.ice_bound.proofs.Modest.{weighted_modest}
use Rattle.ice_pricing.specs.Bounding.{AreBoundsOf}
use Rattle.ice_pricing.proofs.Weighing.{opening-are}
use Rattle.ice_test_session.proofs.ways.weighted.Goals as goal

pub weighted_values-requires : goal.weighted_values-requires
weighted_values-requires c =
    subst (λ (bs : List Bounds). AreBoundsOf c.args.exchange.now bs) (sym c.bounds.ensures.value) (opening-are c.args.exchange.now c.bounds.ensures.lawful)

pub returns-clause-weights : goal.returns-clause-weights
returns-clause-weights c =
    let ex = c.args.exchange.now in
    let w = ex.settings.weight in
    let lawful = c.bounds.ensures.lawful in
    subst (AreWeightsOf (trees_of ex)) (sym (c.in_ok-weights.ensures.value ∙ ap (weighted_weights w) c.bounds.ensures.value))
    (weighted_modest w (trees_of ex) (opening_bounds ex) lawful.settings.weight (opening_are_bounds ex lawful))
