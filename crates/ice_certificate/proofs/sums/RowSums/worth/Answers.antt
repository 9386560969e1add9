use Rattle.std.proofs.Common.{◌≡◌, ◌*◌, ◌^◌, ◌≤◌, ap, arith}
use Rattle.ice_row_laws.specs.Sums.{RowSums}
use Rattle.std.proofs.lemmas.Int.{ints}
use Rattle.ice_row_laws.specs.Sizes.{IsSizedWithin}
use Rattle.ice_certificate.proofs.sums.RowSums.worth.Goals as goal

pub returns-clause-low : goal.returns-clause-low
returns-clause-low c =
    let worth : IsSizedWithin (c.self.inside.weight * 2 ^ 49) c.self.inside.worth = c.self.invariant.worth in
    let few : c.self.inside.weight ≤ 2 ^ 40 = c.self.invariant.weight in
    omega (arith, ints, worth.low, worth.high, few)

pub returns-clause-high : goal.returns-clause-high
returns-clause-high c =
    let worth : IsSizedWithin (c.self.inside.weight * 2 ^ 49) c.self.inside.worth = c.self.invariant.worth in
    let few : c.self.inside.weight ≤ 2 ^ 40 = c.self.invariant.weight in
    omega (arith, ints, worth.low, worth.high, few)

pub returns-clause-sized : goal.returns-clause-sized
returns-clause-sized c =
    let worth : IsSizedWithin (c.self.inside.weight * 2 ^ 49) c.self.inside.worth = c.self.invariant.worth in
    let few : c.self.inside.weight ≤ 2 ^ 40 = c.self.invariant.weight in
    let same : c.self.inside.weight ≡ c.args.self.now.weight = ap (λ (s : RowSums). s.weight) c.self.view_is in
    record { low = omega (arith, ints, worth.low, worth.high, few, same); high = omega (arith, ints, worth.low, worth.high, few, same) }
