use Rattle.std.proofs.Common.{sym, subst}
use Rattle.ice_defs.specs.Exchange.{trees_of}
use Rattle.ice_defs.specs.Conditions.{AreBoundsOf}
use Rattle.ice_bound.proofs.Living.{opening_are_bounds}
use Rattle.ice_price_bench.proofs.searches.searched.Goals as goal

pub best_at_lower_values-requires-clause-bounds : goal.best_at_lower_values-requires-clause-bounds
best_at_lower_values-requires-clause-bounds c =
    subst (AreBoundsOf (trees_of c.args.exchange.now)) (sym c.bounds-bounds.ensures.value) (opening_are_bounds c.args.exchange.now c.bounds-bounds.ensures.lawful)

pub regret-requires-clause-bounds : goal.regret-requires-clause-bounds
regret-requires-clause-bounds c =
    subst (AreBoundsOf (trees_of c.args.exchange.now)) (sym c.bounds-bounds.ensures.value) (opening_are_bounds c.args.exchange.now c.bounds-bounds.ensures.lawful)
