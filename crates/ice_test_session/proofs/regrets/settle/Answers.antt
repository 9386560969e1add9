use Rattle.std.proofs.Common.{sym, subst}
use Rattle.ice_defs.specs.Exchange.{trees_of}
use Rattle.ice_defs.specs.Conditions.{AreBoundsOf}
use Rattle.ice_bound.proofs.Living.{opening_are_bounds}
use Rattle.ice_test_session.proofs.regrets.settle.Goals as goal

pub regret-requires-clause-bounds : goal.regret-requires-clause-bounds
regret-requires-clause-bounds c =
    let ex = c.args.exchange.now in
    subst (AreBoundsOf (trees_of ex)) (sym c.bounds.ensures.value) (opening_are_bounds ex c.bounds.ensures.lawful)
