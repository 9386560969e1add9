use Rattle.std.proofs.Common.{◌≡◌, ◌≤◌, ◌∙◌, ◌^◌, ap, pos, ◌*ℤ◌, arith, to_z, of_z, slice_index_or}
use mir.Syntax.{w128}
use Rattle.std.proofs.lemmas.Int.{ints}
use Rattle.ice_defs.proofs.Sums.{sum_below_more}
use Rattle.ice_row_laws.specs.Sizes.{IsSizedWithin}
use Rattle.ice_fair.specs.Trades.{num_at, held_by}
use Rattle.ice_fair.proofs.held.held_paid.Goals as goal

pub loop-bidder-preserved : goal.loop-bidder-preserved
loop-bidder-preserved c =
    let few : c.loop-bidder.bidder ≤ 39 = omega (arith, c.loop-bidder-test.true, c.requires.few) in
    let sized : IsSizedWithin (10 ^ 21) (num_at c.args.nums.now c.loop-bidder.bidder) = c.requires.sized c.loop-bidder.bidder c.loop-bidder-test.true in
    let held : to_z w128 (of_z w128 c.held_of.result) ≡ c.held_of.result = omega (arith, ints, c.held_of.ensures.low, c.held_of.ensures.high) in
    let num : to_z w128 (of_z w128 (slice_index_or c.args.nums.now c.loop-bidder.bidder (pos 0))) ≡ num_at c.args.nums.now c.loop-bidder.bidder = omega (arith, ints, sized.low, sized.high) in
    let part : c.of_payment-sum.result ≡ held_by c.args.low.now c.args.high.now c.loop-bidder.bidder *ℤ num_at c.args.nums.now c.loop-bidder.bidder =
    c.of_payment-sum.ensures.value ∙ ap (λ z. z *ℤ to_z w128 (of_z w128 (slice_index_or c.args.nums.now c.loop-bidder.bidder (pos 0)))) (held ∙ c.held_of.ensures.value)
    ∙ ap (λ z. held_by c.args.low.now c.args.high.now c.loop-bidder.bidder *ℤ z) num in
    let more = sum_below_more (λ b. held_by c.args.low.now c.args.high.now b *ℤ num_at c.args.nums.now b) c.loop-bidder.bidder in
    record {
      sum = omega (arith, ints, more, part, few, c.of_payment-sum.ensures.low, c.of_payment-sum.ensures.high, c.loop-bidder.invariant.sum, c.loop-bidder.invariant.low, c.loop-bidder.invariant.high);
      low = omega (arith, ints, few, c.of_payment-sum.ensures.low, c.of_payment-sum.ensures.high, c.loop-bidder.invariant.low, c.loop-bidder.invariant.high);
      high = omega (arith, ints, few, c.of_payment-sum.ensures.low, c.of_payment-sum.ensures.high, c.loop-bidder.invariant.low, c.loop-bidder.invariant.high);
    }
