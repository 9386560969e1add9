use Rattle.std.proofs.Common.{List, map, replicate, length, pos, sym, ◌∙◌, subst, ap}
use Rattle.ice_defs.specs.Tree.{Tree}
use Rattle.ice_defs.specs.Set.{Weights}
use Rattle.ice_defs.specs.Bounds.{Bounds}
use Rattle.ice_defs.specs.Exchange.{trees_of, opening_bounds}
use Rattle.ice_tree.specs.Alike.{AreAlike}
use Rattle.ice_defs.specs.Conditions.{AreWeightsOf}
use Rattle.ice_bound.proofs.Living.{opening_are_bounds}
use Rattle.ice_bound.proofs.Modest.{zeros_alike, lower_modest}
use Rattle.ice_test_tolled_search.proofs.pairs.lower.Goals as goal

pub fill_lower-requires : goal.fill_lower-requires
fill_lower-requires c =
    let ex = c.args.exchange.now in
    subst (λ (bs : List Bounds). AreAlike c.in_ok-weights.weights bs) (sym c.bounds.ensures.value)
    (subst (λ (ws : List Weights). AreAlike ws (opening_bounds ex)) (sym (c.in_ok-weights.ensures ∙ ap (λ (ts : List Tree). map (λ (t : Tree). replicate (length t) (pos 0)) ts) c.trees.ensures.value))
    (zeros_alike (trees_of ex) (opening_bounds ex) (opening_are_bounds ex c.bounds.ensures.lawful)))

pub returns : goal.returns
returns c =
    let ex = c.args.exchange.now in
    subst (AreWeightsOf (trees_of ex)) (sym (c.fill_lower.ensures.value ∙ ap (λ (bs : List Bounds). map (λ (b : Bounds). b.lo) bs) c.bounds.ensures.value))
    (lower_modest (trees_of ex) (opening_bounds ex) (opening_are_bounds ex c.bounds.ensures.lawful))
