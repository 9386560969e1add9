use Rattle.std.proofs.Common.{ℕ, ◌≡◌, ◌≤◌, ◌∙◌, ap, pos, ◌+ℤ◌, ◌*ℤ◌, arith, to_z, of_z}
use Rattle.std.specs.Int.{int_max}
use mir.Syntax.{w128}
use Rattle.std.proofs.lemmas.Int.{ints}
use Rattle.ice_defs.proofs.Sums.{sum_below_more}
use Rattle.ice_row_laws.specs.Sums.{units_in}
use Rattle.ice_fair.specs.Trades.{held_units_by}
use Rattle.ice_fair.proofs.held.asked.Goals as goal

pub loop-good-preserved : goal.loop-good-preserved
loop-good-preserved c =
    let g : ℕ = c.loop-good.good in
    let few : c.loop-good.good ≤ 31 = omega (arith, c.loop-good-test.true, c.goods-good-end.ensures.value, c.goods-good-end.ensures.proper.goods_count.1) in
    let held : to_z w128 (of_z w128 c.held_units.result) ≡ c.held_units.result = omega (arith, ints, c.held_units.ensures.low, c.held_units.ensures.high) in
    let units : to_z w128 (of_z w128 c.units_of.result) ≡ c.units_of.result = omega (arith, ints, c.units_of.ensures.low, c.units_of.ensures.high) in
    let part : c.asked_of-sum.result ≡ int_max (held_units_by c.args.trade.now c.args.low.now c.args.high.now g +ℤ (pos 100 *ℤ units_in c.args.sums.now g)) (pos 0) =
    c.asked_of-sum.ensures.value ∙ ap (λ z. int_max (z +ℤ (pos 100 *ℤ to_z w128 (of_z w128 c.units_of.result))) (pos 0)) (held ∙ c.held_units.ensures.value)
    ∙ ap (λ z. int_max (held_units_by c.args.trade.now c.args.low.now c.args.high.now g +ℤ (pos 100 *ℤ z)) (pos 0)) (units ∙ c.units_of.ensures.value) in
    let more = sum_below_more (λ k. int_max (held_units_by c.args.trade.now c.args.low.now c.args.high.now k +ℤ (pos 100 *ℤ units_in c.args.sums.now k)) (pos 0)) g in
    record {
      sum = omega (arith, ints, more, part, few, c.asked_of-sum.ensures.low, c.asked_of-sum.ensures.high, c.loop-good.invariant.sum, c.loop-good.invariant.low, c.loop-good.invariant.high);
      low = omega (arith, ints, few, c.asked_of-sum.ensures.low, c.asked_of-sum.ensures.high, c.loop-good.invariant.low, c.loop-good.invariant.high);
      high = omega (arith, ints, few, c.asked_of-sum.ensures.low, c.asked_of-sum.ensures.high, c.loop-good.invariant.low, c.loop-good.invariant.high);
    }
