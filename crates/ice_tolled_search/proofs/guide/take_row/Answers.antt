use Rattle.std.proofs.Common.{arith, ◌<◌, length}
use Rattle.std.proofs.lemmas.Int.{ints}
use Rattle.ice_tolled_search.proofs.guide.take_row.Goals as goal

pub overflow_cast-amount : goal.overflow_cast-amount
overflow_cast-amount c =
    let inside : c.loop-node.node < length c.args.amounts.now = omega arith in
    let range = c.requires.range c.loop-node.node inside in
    omega (arith, ints, c.get-amount.ensures, range.low, range.high)
