use Rattle.std.proofs.Common.{sym, subst, add-one}
use Rattle.ice_pricing.specs.Tallies.{IsTallyOf}
use Rattle.ice_pricing.proofs.Tallying.{one_more_tallied}
use Rattle.ice_pricing.proofs.tally.Tally.take.Goals as goal

pub returns-clause-taken : goal.returns-clause-taken
returns-clause-taken c = λ rows tallied.
    one_more_tallied c.args.trade.now c.args.row.now c.self.inside.sums c.add_to.new.sums c.self.inside.count _ c.requires.row c.add_to.ensures (add-one c.self.inside.count) rows
    (subst (IsTallyOf c.args.trade.now rows) (sym c.self.view_is) tallied)
