use Rattle.std.proofs.Common.{arith, ◌<◌, ◌∙◌, length, length-set, ◌+ℤ◌, to_z}
use Rattle.std.proofs.lemmas.Int.{ints, to_z-of_z}
use mir.Syntax.{w128}
use mir.Val.{SFits}
use Rattle.ice_defs.proofs.Sums.{sum_below_more}
use Rattle.ice_best.proofs.Sales.{put_each}
use Rattle.ice_bound.specs.Beside.{net_beside, IsShare}
use Rattle.ice_bound.proofs.Totals.{total_fits}
use Rattle.ice_bound.proofs.Reaching.{share_fits}
use Rattle.ice_bound.proofs.beside.Beside.put_shares.Goals as goal

pub loop-bidder-preserved : goal.loop-bidder-preserved
loop-bidder-preserved c =
    let b = c.loop-bidder.bidder in
    let st = c.args.self.now in
    let i = c.loop-bidder.invariant in
    let low = c.share-share.ensures.low in
    let high = c.share-share.ensures.high in
    let few = c.bidders-bidder-end.ensures.known.few in
    let count = c.bidders-bidder-end.ensures.value in
    let there : b < length c.loop-bidder.shares = omega (arith, i.count, c.loop-bidder-test.true, few, count) in
    let fits : SFits w128 (to_z w128 c.loop-bidder.total-bits +ℤ c.share-share.result) =
    total_fits _ (omega (arith, ints, low, high, i.low, i.high, few, count, c.loop-bidder-test.true)) (omega (arith, ints, low, high, i.low, i.high, few, count, c.loop-bidder-test.true)) in
    rw (to_z-of_z w128 c.share-share.result (share_fits st b c.share-share.result c.share-share.ensures), to_z-of_z w128 (to_z w128 c.loop-bidder.total-bits +ℤ c.share-share.result) fits) (record {
      count = length-set c.loop-bidder.shares b c.share-share.result ∙ i.count;
      each = put_each c.loop-bidder.shares b c.share-share.result (λ k z. IsShare st k z) there i.each c.share-share.ensures;
      sum = omega (arith, ints, sum_below_more (net_beside st) b, i.sum, c.share-share.ensures.is);
      low = omega (arith, ints, low, high, i.low);
      high = omega (arith, ints, low, high, i.high);
    })
