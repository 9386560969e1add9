use Rattle.std.proofs.Common.{◌≡◌, ◌∙◌, ap, pos, sym, arith, slice_index_or, to_z, of_z, rules}
use Rattle.std.specs.Int.{int_max}
use mir.Syntax.{w64, w128}
use mir.Val.{SFits}
use Rattle.std.proofs.lemmas.Int.{ints, clamps}
use Rattle.std.proofs.lemmas.List.Sums.{fold_more}
use Rattle.ice_certificate.proofs.certified.top.Goals as goal

pub loop-num-preserved : goal.loop-num-preserved
loop-num-preserved c =
    let fits : SFits w64 (slice_index_or c.nums-num-items.result.now c.loop-num.num-index (pos 0)) = search rules in
    let item : to_z w128 (of_z w128 c.from.result) ≡ slice_index_or c.nums-num-items.result.now c.loop-num.num-index (pos 0) = omega (arith, ints, c.from.ensures, fits) in
    let more : c.greater-top.result ≡ int_max c.loop-num.top (slice_index_or c.nums-num-items.result.now c.loop-num.num-index (pos 0)) =
    c.greater-top.ensures ∙ ap (λ z. int_max z (to_z w128 (of_z w128 c.from.result))) c.loop-num.top-is ∙ ap (int_max c.loop-num.top) item in
    let bound : to_z w128 (of_z w128 c.greater-top.result) ≡ c.greater-top.result = omega (arith, ints, clamps, more, fits, c.loop-num.invariant.low, c.loop-num.invariant.high, c.loop-num.top-is) in
    record {
      top = bound ∙ more ∙ ap (λ z. int_max z (slice_index_or c.nums-num-items.result.now c.loop-num.num-index (pos 0))) (sym c.loop-num.top-is ∙ c.loop-num.invariant.top)
          ∙ sym (fold_more int_max (pos 0) c.nums-num-items.result.now c.loop-num.num-index (pos 0) c.loop-num-test.true);
      low = omega (arith, ints, clamps, bound, more, c.loop-num.invariant.low, c.loop-num.top-is);
      high = omega (arith, ints, clamps, bound, more, fits, c.loop-num.invariant.high, c.loop-num.top-is);
    }
