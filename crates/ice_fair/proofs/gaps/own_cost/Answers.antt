use Rattle.std.proofs.Common.{ℕ, ◌≡◌, ◌∙◌, ◌≤◌, length, ap, ℤ, ◌*ℤ◌, arith, rules, to_z, of_z}
use mir.Syntax.{w64, w128}
use mir.Val.{SFits}
use Rattle.std.proofs.lemmas.Int.{ints, to_z-of_z}
use Rattle.ice_defs.specs.Sum.{sum_below}
use Rattle.ice_defs.specs.Tree.{Tree}
use Rattle.ice_defs.specs.Prices.{price_of}
use Rattle.ice_defs.specs.Set.{NodeSet, weight_of, units}
use Rattle.ice_defs.specs.Trade.{tree_of, set_of}
use Rattle.ice_defs.proofs.Sums.{sum_below_more, sum_below-same}
use Rattle.ice_fair.proofs.gaps.own_cost.Goals as goal

pub loop-good-preserved : goal.loop-good-preserved
loop-good-preserved c =
    let few : c.loop-good.good ≤ 31 = omega (arith, c.loop-good-test.true, c.goods-good-end.ensures.value, c.goods-good-end.ensures.proper.goods_count.1) in
    let fits : SFits w128 c.num.result = search rules in
    let num : to_z w128 (of_z w128 c.num.result) ≡ price_of c.args.prices.now c.loop-good.good = to_z-of_z w128 c.num.result fits ∙ c.num.ensures.num in
    let got : to_z w64 (of_z w64 c.get.result) ≡ weight_of c.units-units.result c.loop-good.good = omega (arith, ints, c.get.ensures.value, c.get.ensures.low, c.get.ensures.high) in
    let part : c.part-sum.result ≡ price_of c.args.prices.now c.loop-good.good *ℤ weight_of c.units-units.result c.loop-good.good =
    c.part-sum.ensures.value ∙ ap (λ z. z *ℤ to_z w64 (of_z w64 c.get.result)) num ∙ ap (λ z. price_of c.args.prices.now c.loop-good.good *ℤ z) got in
    let more = sum_below_more (λ g. price_of c.args.prices.now g *ℤ weight_of c.units-units.result g) c.loop-good.good in
    record {
      sum = omega (arith, ints, more, part, few, c.part-sum.ensures.low, c.part-sum.ensures.high, c.loop-good.invariant.sum, c.loop-good.invariant.low, c.loop-good.invariant.high);
      low = omega (arith, ints, few, c.part-sum.ensures.low, c.part-sum.ensures.high, c.loop-good.invariant.low, c.loop-good.invariant.high);
      high = omega (arith, ints, few, c.part-sum.ensures.low, c.part-sum.ensures.high, c.loop-good.invariant.low, c.loop-good.invariant.high);
    }

pub returns-clause-value : goal.returns-clause-value
returns-clause-value c =
    let end : c.loop-good.good ≡ length c.args.prices.now.nums = omega (arith, c.goods-good-end.ensures.value, c.loop-good-test.false, c.loop-good.auto.good-end, c.requires.goods) in
    let few : c.loop-good.good ≤ 32 = omega (arith, c.goods-good-end.ensures.value, c.loop-good.auto.good-end, c.goods-good-end.ensures.proper.goods_count.1) in
    let own : ℕ → ℤ = units (tree_of c.args.trade.now.trees c.args.bidder) (set_of c.args.trade.now.sets c.args.bidder) in
    c.loop-good.invariant.sum
    ∙ sum_below-same _ (λ g. price_of c.args.prices.now g *ℤ own g) c.loop-good.good
    (λ g h. ap (λ z. price_of c.args.prices.now g *ℤ z)
    (c.units-units.ensures.each g (omega (arith, h, few)) ∙ ap (λ (t : Tree). units t c.own.result.now g) c.tree.ensures.value
    ∙ ap (λ (s : NodeSet). units (tree_of c.args.trade.now.trees c.args.bidder) s g) c.own.ensures.value))
    ∙ ap (λ n. sum_below (λ g. price_of c.args.prices.now g *ℤ own g) n) end
