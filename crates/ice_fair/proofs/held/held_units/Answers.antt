use Rattle.std.proofs.Common.{ℕ, ◌≡◌, ◌≤◌, ◌∙◌, ap, ◌*ℤ◌, arith, to_z, of_z}
use mir.Syntax.{w64, w128}
use Rattle.std.proofs.lemmas.Int.{ints}
use Rattle.ice_defs.specs.Set.{units}
use Rattle.ice_defs.specs.Trade.{tree_of, set_of}
use Rattle.ice_defs.proofs.Sums.{sum_below_more}
use Rattle.ice_fair.specs.Trades.{held_by}
use Rattle.ice_fair.proofs.held.held_units.Goals as goal

pub loop-bidder-preserved : goal.loop-bidder-preserved
loop-bidder-preserved c =
    let k : ℕ = c.loop-bidder.bidder in
    let few : c.loop-bidder.bidder ≤ 39 = omega (arith, c.loop-bidder-test.true, c.bidders-bidder-end.ensures.value, c.bidders-bidder-end.ensures.proper.bidders.1) in
    let held : to_z w128 (of_z w128 c.held_of.result) ≡ c.held_of.result = omega (arith, ints, c.held_of.ensures.low, c.held_of.ensures.high) in
    let own : to_z w64 (of_z w64 c.own_units.result) ≡ c.own_units.result = omega (arith, ints, c.own_units.ensures.low, c.own_units.ensures.high) in
    let part : c.of_units-sum.result ≡ held_by c.args.low.now c.args.high.now k *ℤ units (tree_of c.args.trade.now.trees k) (set_of c.args.trade.now.sets k) c.args.good =
    c.of_units-sum.ensures.value ∙ ap (λ z. z *ℤ to_z w64 (of_z w64 c.own_units.result)) (held ∙ c.held_of.ensures.value)
    ∙ ap (λ z. held_by c.args.low.now c.args.high.now k *ℤ z) (own ∙ c.own_units.ensures.value) in
    let more = sum_below_more (λ b. held_by c.args.low.now c.args.high.now b *ℤ units (tree_of c.args.trade.now.trees b) (set_of c.args.trade.now.sets b) c.args.good) k in
    record {
      sum = omega (arith, ints, more, part, few, c.of_units-sum.ensures.low, c.of_units-sum.ensures.high, c.loop-bidder.invariant.sum, c.loop-bidder.invariant.low, c.loop-bidder.invariant.high);
      low = omega (arith, ints, few, c.of_units-sum.ensures.low, c.of_units-sum.ensures.high, c.loop-bidder.invariant.low, c.loop-bidder.invariant.high);
      high = omega (arith, ints, few, c.of_units-sum.ensures.low, c.of_units-sum.ensures.high, c.loop-bidder.invariant.low, c.loop-bidder.invariant.high);
    }
