use Rattle.std.proofs.Common.{ℕ, ◌≡◌, ◌∙◌, ◌+◌, ◌*◌, ◌++◌, [], ◌∷◌, ap, arith, rules, slice_index_or}
use Rattle.ice_fair_stage.proofs.Certifying.{lows-more, highs-more}
use Rattle.ice_fair_stage.proofs.certified.holds_of.Goals as goal

pub loop-bidder-preserved : goal.loop-bidder-preserved
loop-bidder-preserved c =
    let place : 2 * c.from-place.result ≡ 2 * c.loop-bidder.bidder = omega (arith, c.from-place.ensures) in
    let first : c.push.new.self.items ≡ c.loop-bidder.low.items ++ slice_index_or c.args.numbers.now (2 * c.from-place.result) 0 ∷ [] = search rules in
    let second : c.push-in-loop-bidder.new.self.items ≡ c.loop-bidder.high.items ++ slice_index_or c.args.numbers.now (2 * c.from-place.result + 1) 0 ∷ [] = search rules in
    record {
      low = first ∙ ap (λ (k : ℕ). c.loop-bidder.low.items ++ slice_index_or c.args.numbers.now k 0 ∷ []) place ∙ lows-more c.loop-bidder.bidder c.args.numbers.now c.loop-bidder.low.items c.loop-bidder.invariant.low;
      high = second ∙ ap (λ (k : ℕ). c.loop-bidder.high.items ++ slice_index_or c.args.numbers.now (k + 1) 0 ∷ []) place ∙ highs-more c.loop-bidder.bidder c.args.numbers.now c.loop-bidder.high.items c.loop-bidder.invariant.high;
    }
