use Rattle.std.proofs.Common.{rules, arith}
use Rattle.std.proofs.lemmas.Int.{ints, to_z-of_z}
use mir.Syntax.{w128}
use mir.Val.{SFits}
use Rattle.ice_mult.proofs.moving.MovingGood.way.Goals as goal

pub returns-else-down-here-clause-way : goal.returns-else-down-here-clause-way
returns-else-down-here-clause-way c = λ exact.
    let here_fits : SFits w128 c.sum_at-here.result = search rules in
    let down_fits : SFits w128 c.sum_at-down.result = search rules in
    let no = rw (to_z-of_z w128 c.sum_at-here.result here_fits, to_z-of_z w128 c.sum_at-down.result down_fits) at c.if-down-here.false in
    (c.sum_at-here.result, c.sum_at-down.result, c.sum_at-here.ensures.sum, c.sum_at-down.ensures.sum, omega (arith, ints, no))
