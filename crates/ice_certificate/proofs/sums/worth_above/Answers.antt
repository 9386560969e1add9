use Rattle.std.proofs.Common.{◌^◌, ◌≤◌, length, arith}
use Rattle.std.proofs.lemmas.Int.{ints}
use Rattle.ice_defs.specs.Set.{value}
use Rattle.ice_row_laws.specs.Sizes.{IsSizedWithin}
use Rattle.ice_certificate.proofs.Worths.{value-within}
use Rattle.ice_certificate.proofs.sums.worth_above.Goals as goal

pub returns-clause-low : goal.returns-clause-low
returns-clause-low c =
    let few : length c.args.tree.now ≤ 200 = omega (arith, c.nodes-nodes.ensures.value, c.nodes-nodes.ensures.fits) in
    let set : IsSizedWithin (2 ^ 48) (value c.args.set.now c.args.weights.now) = value-within c.args.set.now c.args.weights.now (omega (arith, c.requires.set, few)) (omega (arith, c.requires.set, c.requires.nodes)) c.requires.modest in
    let own : IsSizedWithin (2 ^ 48) (value c.args.own.now c.args.weights.now) = value-within c.args.own.now c.args.weights.now (omega (arith, c.requires.own, few)) (omega (arith, c.requires.own, c.requires.nodes)) c.requires.modest in
    omega (arith, ints, c.value.ensures.value, c.value-2.ensures.value, set.low, own.high, set.high, own.low)

pub returns-clause-high : goal.returns-clause-high
returns-clause-high c =
    let few : length c.args.tree.now ≤ 200 = omega (arith, c.nodes-nodes.ensures.value, c.nodes-nodes.ensures.fits) in
    let set : IsSizedWithin (2 ^ 48) (value c.args.set.now c.args.weights.now) = value-within c.args.set.now c.args.weights.now (omega (arith, c.requires.set, few)) (omega (arith, c.requires.set, c.requires.nodes)) c.requires.modest in
    let own : IsSizedWithin (2 ^ 48) (value c.args.own.now c.args.weights.now) = value-within c.args.own.now c.args.weights.now (omega (arith, c.requires.own, few)) (omega (arith, c.requires.own, c.requires.nodes)) c.requires.modest in
    omega (arith, ints, c.value.ensures.value, c.value-2.ensures.value, set.low, own.high, set.high, own.low)
