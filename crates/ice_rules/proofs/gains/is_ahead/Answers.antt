use Rattle.std.proofs.Common.{arith}
use Rattle.std.proofs.lemmas.Int.{ints}
use Rattle.ice_rules.proofs.Losses.{ahead_from, ahead_gives}
use Rattle.ice_rules.proofs.gains.is_ahead.Goals as goal

pub returns-clause-yes : goal.returns-clause-yes
returns-clause-yes c = λ yes.
    ahead_from c.args.at.now.tree.now c.args.at.now.prices.now c.args.at.now.bounds.now c.requires.nodes c.args.at.now.set.now c.args.other.now c.against-weights.result c.requires.set c.requires.other
    c.against-weights.ensures.values (omega (arith, ints, c.is_less.ensures.yes yes, c.net-ahead.ensures.value, c.net.ensures.value))

pub returns-clause-no : goal.returns-clause-no
returns-clause-no c = λ ahead.
    let less = ahead_gives c.args.at.now.tree.now c.args.at.now.prices.now c.args.at.now.bounds.now c.requires.nodes c.args.at.now.set.now c.args.other.now c.against-weights.result
    c.against-weights.ensures.values c.against-weights.ensures.bounds.ordered ahead in
    c.is_less.ensures.no (omega (arith, ints, less, c.net-ahead.ensures.value, c.net.ensures.value))
