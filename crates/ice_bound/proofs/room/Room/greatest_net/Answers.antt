use Rattle.ice_bound.proofs.Tables.{net_some, net_none, small_low, small_high}
use Rattle.ice_bound.proofs.room.Room.greatest_net.Goals as goal

pub returns-clause-greatest : goal.returns-clause-greatest
returns-clause-greatest c =
    net_some c.args.tree.now c.args.weights.now c.args.m.now c.args.fixing.now c.greatest.result
    (c.greatest.ensures.net c.args.tree.now c.args.weights.now c.args.m.now c.args.fixing.now c.fill.ensures)

pub returns-clause-low : goal.returns-clause-low
returns-clause-low c = small_low c.greatest.result (c.greatest.ensures.small c.args.tree.now c.args.weights.now c.args.m.now c.args.fixing.now c.fill.ensures)

pub returns-clause-high : goal.returns-clause-high
returns-clause-high c = small_high c.greatest.result (c.greatest.ensures.small c.args.tree.now c.args.weights.now c.args.m.now c.args.fixing.now c.fill.ensures)

pub returns-clause-none : goal.returns-clause-none
returns-clause-none c =
    net_none c.args.tree.now c.args.weights.now c.args.m.now c.args.fixing.now c.greatest.result
    (c.greatest.ensures.net c.args.tree.now c.args.weights.now c.args.m.now c.args.fixing.now c.fill.ensures)
