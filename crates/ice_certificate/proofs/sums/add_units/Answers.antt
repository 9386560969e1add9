use Rattle.std.proofs.Common.{ℕ, ◌≡◌, ◌≢◌, ◌∙◌, ◌^◌, ap, pos, ◌+ℤ◌, ◌-ℤ◌, ◌*ℤ◌, arith, below_more, get_or-set_other, length-set, to_z, of_z, slice_index_or}
use mir.Syntax.{w128}
use Rattle.std.proofs.lemmas.Int.{ints}
use Rattle.ice_defs.specs.Set.{weight_of}
use Rattle.ice_best.proofs.Sales.{put_each}
use Rattle.ice_row_laws.specs.Sizes.{IsSizedWithin}
use Rattle.ice_certificate.proofs.sums.add_units.Goals as goal

pub overflow_add-sums : goal.overflow_add-sums
overflow_add-sums c =
    let same = c.loop-good.invariant.rest c.loop-good.good (omega arith) in
    let sized = c.requires.sized c.loop-good.good c.loop-good-test.true in
    omega (arith, ints, same, sized.low, sized.high, c.by_weight.ensures.low, c.by_weight.ensures.high)

pub loop-good-preserved : goal.loop-good-preserved
loop-good-preserved c =
    let i : ℕ = c.loop-good.good in
    let same = c.loop-good.invariant.rest c.loop-good.good (omega arith) in
    let old = c.requires.sized c.loop-good.good c.loop-good-test.true in
    let difference : to_z w128 (of_z w128 c.units_above.result) ≡ weight_of c.args.units.now c.loop-good.good -ℤ weight_of c.args.own.now c.loop-good.good =
    omega (arith, ints, c.units_above.ensures.value, c.units_above.ensures.low, c.units_above.ensures.high) in
    let product : c.by_weight.result ≡ pos c.args.weight *ℤ (weight_of c.args.units.now c.loop-good.good -ℤ weight_of c.args.own.now c.loop-good.good) =
    c.by_weight.ensures.value ∙ ap (λ z. pos c.args.weight *ℤ z) difference in
    let moved : to_z w128 (of_z w128 (to_z w128 (of_z w128 (slice_index_or c.loop-good.sums c.loop-good.good (pos 0))) +ℤ to_z w128 (of_z w128 c.by_weight.result))) ≡ weight_of c.args.sums.now c.loop-good.good +ℤ c.by_weight.result =
    omega (arith, ints, same, old.low, old.high, c.by_weight.ensures.low, c.by_weight.ensures.high) in
    let here : IsSizedWithin (2 ^ 19) (weight_of c.args.units.now c.loop-good.good -ℤ weight_of c.args.own.now c.loop-good.good) = record {
      low = omega (arith, ints, c.units_above.ensures.value, c.units_above.ensures.low);
      high = omega (arith, ints, c.units_above.ensures.value, c.units_above.ensures.high);
    } in
    record {
      count = length-set c.loop-good.sums c.loop-good.good _ ∙ c.loop-good.invariant.count;
      added = put_each c.loop-good.sums c.loop-good.good _
          (λ g z. z ≡ weight_of c.args.sums.now g +ℤ (pos c.args.weight *ℤ (weight_of c.args.units.now g -ℤ weight_of c.args.own.now g)))
          (omega (arith, c.loop-good.invariant.count, c.loop-good-test.true)) c.loop-good.invariant.added (moved ∙ ap (λ z. weight_of c.args.sums.now c.loop-good.good +ℤ z) product);
      rest = λ g h. let other : g ≢ c.loop-good.good = omega (arith, h) in
          get_or-set_other c.loop-good.sums c.loop-good.good g _ (pos 0) other ∙ c.loop-good.invariant.rest g (omega (arith, h));
      sized = below_more (λ g. IsSizedWithin (2 ^ 19) (weight_of c.args.units.now g -ℤ weight_of c.args.own.now g)) c.loop-good.good c.loop-good.invariant.sized here;
    }
