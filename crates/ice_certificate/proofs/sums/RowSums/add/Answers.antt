use Rattle.std.proofs.Common.{◌≡◌, ◌∙◌, ◌+◌, ◌*◌, ◌≤◌, ◌^◌, ap, pos, ◌+ℤ◌, ◌-ℤ◌, ◌*ℤ◌, arith, rules, to_z, of_z}
use mir.Syntax.{w128}
use Rattle.std.proofs.lemmas.Int.{ints}
use Rattle.ice_defs.specs.Set.{weight_of, value, units}
use Rattle.ice_row_laws.specs.Sums.{RowSums, units_in}
use Rattle.ice_row_laws.specs.Sizes.{IsSizedWithin}
use Rattle.ice_row_laws.proofs.Sizes.{times-within}
use Rattle.ice_certificate.proofs.sums.RowSums.add.Goals as goal

pub add_units-requires-clause-sized : goal.add_units-requires-clause-sized
add_units-requires-clause-sized c g h =
    let is : IsSizedWithin (c.self.inside.weight * 2 ^ 19) (weight_of c.self.inside.units g) = c.self.invariant.units g h in
    let few : c.self.inside.weight ≤ 2 ^ 40 = c.self.invariant.weight in
    record { low = omega (arith, ints, is.low, few); high = omega (arith, ints, is.high, few) }

pub invariant_of-self : goal.invariant_of-self
invariant_of-self c =
    let difference : to_z w128 (of_z w128 c.worth_above.result) ≡ c.worth_above.result = omega (arith, ints, c.worth_above.ensures.low, c.worth_above.ensures.high) in
    let product : c.by_weight.result ≡ pos c.args.weight *ℤ c.worth_above.result = c.by_weight.ensures.value ∙ ap (λ z. pos c.args.weight *ℤ z) difference in
    let step : IsSizedWithin (c.args.weight * 2 ^ 49) (pos c.args.weight *ℤ c.worth_above.result) =
    times-within c.args.weight c.args.weight (2 ^ 49) c.worth_above.result (omega arith) (record { low = c.worth_above.ensures.low; high = c.worth_above.ensures.high }) in
    let worth : IsSizedWithin (c.self.inside.weight * 2 ^ 49) c.self.inside.worth = c.self.invariant.worth in
    let few : c.self.inside.weight ≤ 2 ^ 40 = c.self.invariant.weight in
    let weight : c.self.inside.weight ≡ c.args.self.now.weight = ap (λ (s : RowSums). s.weight) c.self.view_is in
    let sum : to_z w128 (of_z w128 (to_z w128 (of_z w128 c.self.inside.worth) +ℤ to_z w128 (of_z w128 c.by_weight.result))) ≡ c.self.inside.worth +ℤ c.by_weight.result =
    omega (arith, ints, worth.low, worth.high, few, c.by_weight.ensures.low, c.by_weight.ensures.high) in
    record {
      goods = search rules;
      weight = omega (arith, weight, c.requires.few);
      worth = record {
        low = omega (arith, ints, sum, product, step.low, worth.low);
        high = omega (arith, ints, sum, product, step.high, worth.high);
      };
      units = λ g h. let old : IsSizedWithin (c.self.inside.weight * 2 ^ 19) (weight_of c.self.inside.units g) = c.self.invariant.units g h in
          let more : IsSizedWithin (c.args.weight * 2 ^ 19) (pos c.args.weight *ℤ (weight_of c.units-units.result g -ℤ weight_of c.units-owned.result g)) =
          times-within c.args.weight c.args.weight (2 ^ 19) (weight_of c.units-units.result g -ℤ weight_of c.units-owned.result g) (omega arith) (c.add_units.ensures.sized g h) in
          record {
            low = omega (arith, ints, c.add_units.ensures.added g h, old.low, more.low);
            high = omega (arith, ints, c.add_units.ensures.added g h, old.high, more.high);
          };
    }

pub returns : goal.returns
returns c =
    let difference : to_z w128 (of_z w128 c.worth_above.result) ≡ c.worth_above.result = omega (arith, ints, c.worth_above.ensures.low, c.worth_above.ensures.high) in
    let product : c.by_weight.result ≡ pos c.args.weight *ℤ (value c.args.set.now c.args.weights.now -ℤ value c.args.own.now c.args.weights.now) =
    c.by_weight.ensures.value ∙ ap (λ z. pos c.args.weight *ℤ z) (difference ∙ c.worth_above.ensures.value) in
    let worth : IsSizedWithin (c.self.inside.weight * 2 ^ 49) c.self.inside.worth = c.self.invariant.worth in
    let few : c.self.inside.weight ≤ 2 ^ 40 = c.self.invariant.weight in
    let sum : to_z w128 (of_z w128 (to_z w128 (of_z w128 c.self.inside.worth) +ℤ to_z w128 (of_z w128 c.by_weight.result))) ≡ c.self.inside.worth +ℤ c.by_weight.result =
    omega (arith, ints, worth.low, worth.high, few, c.by_weight.ensures.low, c.by_weight.ensures.high) in
    record {
      weight = ap (λ (s : RowSums). s.weight + c.args.weight) c.self.view_is;
      worth = sum ∙ ap (λ z. c.self.inside.worth +ℤ z) product
          ∙ ap (λ (s : RowSums). s.worth +ℤ (pos c.args.weight *ℤ (value c.args.set.now c.args.weights.now -ℤ value c.args.own.now c.args.weights.now))) c.self.view_is;
      units = λ g h. c.add_units.ensures.added g h
          ∙ ap (λ z. weight_of c.self.inside.units g +ℤ (pos c.args.weight *ℤ (z -ℤ weight_of c.units-owned.result g))) (c.units-units.ensures.each g h)
          ∙ ap (λ z. weight_of c.self.inside.units g +ℤ (pos c.args.weight *ℤ (units c.args.tree.now c.args.set.now g -ℤ z))) (c.units-owned.ensures.each g h)
          ∙ ap (λ (s : RowSums). units_in s g +ℤ (pos c.args.weight *ℤ (units c.args.tree.now c.args.set.now g -ℤ units c.args.tree.now c.args.own.now g))) c.self.view_is;
    }
