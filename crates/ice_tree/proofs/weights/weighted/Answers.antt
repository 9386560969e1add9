use Rattle.std.proofs.Common.{◌≡◌, ◌+ℤ◌, arith, rules}
use mir.Syntax.{w128}
use mir.Val.{to_z, of_z}
use Rattle.std.proofs.lemmas.Int.{ints}
use Rattle.ice_tree.proofs.weights.weighted.Goals as goal

pub returns-clause-small : goal.returns-clause-small
returns-clause-small c =
    let same : to_z w128 (of_z w128 (to_z w128 (of_z w128 c.times.result) +ℤ to_z w128 (of_z w128 c.times-2.result))) ≡ c.times.result +ℤ c.times-2.result = search rules in
    rw same (record {
      low = omega (arith, ints, c.times.ensures.low, c.times-2.ensures.low);
      high = omega (arith, ints, c.times.ensures.high, c.times-2.ensures.high);
    })
