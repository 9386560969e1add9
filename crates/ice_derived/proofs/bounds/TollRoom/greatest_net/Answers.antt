use Rattle.ice_derived.proofs.Values.{some-greatest, some-low, some-high}
use Rattle.ice_derived.proofs.bounds.TollRoom.greatest_net.Goals as goal

pub returns-clause-greatest : goal.returns-clause-greatest
returns-clause-greatest c =
    some-greatest c.args.tree.now c.args.weights.now c.args.m.now c.args.charges.now c.nets_with-nets.result c.nets_with-nets.ensures.nets c.args.fixing.now c.nets_with-nets.ensures.few c.greatest.result
    (c.greatest.ensures.some c.args.tree.now c.nets_with-nets.result c.args.fixing.now c.fill.ensures)

pub returns-clause-low : goal.returns-clause-low
returns-clause-low c =
    some-low c.args.tree.now c.args.weights.now c.args.m.now c.args.charges.now c.nets_with-nets.result c.nets_with-nets.ensures.nets c.args.fixing.now c.nets_with-nets.ensures.few c.greatest.result
    (c.greatest.ensures.some c.args.tree.now c.nets_with-nets.result c.args.fixing.now c.fill.ensures)

pub returns-clause-high : goal.returns-clause-high
returns-clause-high c =
    some-high c.args.tree.now c.args.weights.now c.args.m.now c.args.charges.now c.nets_with-nets.result c.nets_with-nets.ensures.nets c.args.fixing.now c.nets_with-nets.ensures.few c.greatest.result
    (c.greatest.ensures.some c.args.tree.now c.nets_with-nets.result c.args.fixing.now c.fill.ensures)

pub returns-clause-none : goal.returns-clause-none
returns-clause-none c = c.greatest.ensures.none c.args.tree.now c.nets_with-nets.result c.args.fixing.now c.fill.ensures
