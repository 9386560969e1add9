use Rattle.std.proofs.Common.{◌≡◌, pos, ◌-ℤ◌, ◌*ℤ◌, arith, rules, to_z, of_z}
use mir.Syntax.{w128}
use Rattle.std.proofs.lemmas.Int.{ints}
use Rattle.ice_best.proofs.nets.net_weight.Goals as goal

pub returns-clause-value : goal.returns-clause-value
returns-clause-value c =
    let same : to_z w128 (of_z w128 (to_z w128 (of_z w128 c.times_scale.result) -ℤ to_z w128 (of_z w128 c.times_cost.result))) ≡ c.times_scale.result -ℤ c.times_cost.result = search rules in
    let value : c.times_scale.result ≡ pos c.args.scale *ℤ c.args.weight = search rules in
    let cost : c.times_cost.result ≡ pos c.args.times *ℤ c.args.cost = search rules in
    rw same (omega (arith, ints, value, cost))

pub returns-clause-small : goal.returns-clause-small
returns-clause-small c =
    let same : to_z w128 (of_z w128 (to_z w128 (of_z w128 c.times_scale.result) -ℤ to_z w128 (of_z w128 c.times_cost.result))) ≡ c.times_scale.result -ℤ c.times_cost.result = search rules in
    rw same (record {
      low = omega (arith, ints, c.times_scale.ensures.low, c.times_cost.ensures.high);
      high = omega (arith, ints, c.times_scale.ensures.high, c.times_cost.ensures.low);
    })
