use Rattle.std.proofs.Common.{arith}
use Rattle.std.proofs.lemmas.Int.{ints}
use Rattle.ice_tree.proofs.bounds.Bounds.lower_inside.Goals as goal

pub returns-then-has-clause-low : goal.returns-then-has-clause-low
returns-then-has-clause-low c =
    let n = c.args.node in
    let low = c.requires.bounds.low n (omega arith) in
    omega (arith, ints)

pub returns-then-has-clause-high : goal.returns-then-has-clause-high
returns-then-has-clause-high c =
    let n = c.args.node in
    let there = c.requires.node in
    let ordered = c.requires.bounds.ordered n (omega arith) in
    let high = c.requires.bounds.high n (omega arith) in
    omega (arith, ints)
