use Rattle.std.proofs.Common.{◌≡◌, List, [], ◌∷◌, ◌++◌, pos, rules, subst, sym, get_or, take, All, ◌+◌}
use Rattle.ice_defs.specs.Fraction.{Fraction}
use Rattle.ice_threshold.specs.CutOff.{IsCutDown, AreCutDown}
use Rattle.ice_threshold.specs.Limits.{IsShort}
use Rattle.ice_threshold.proofs.Paid.{AreCutDown-more, All-more}
use Rattle.ice_threshold.proofs.payments.discounts_at.Goals as goal

pub loop-discount-preserved : goal.loop-discount-preserved
loop-discount-preserved c =
    let pushed : c.push.new.self.items ≡ c.loop-discount.discounts.items ++ c.discount_at.result ∷ [] = search rules in
    let here : IsCutDown c.args.cut c.discount_at.result (get_or c.args.vickrey.now c.loop-discount.discount-index (pos 0)) = search rules in
    let i = c.loop-discount.discount-index in
    record {
      cut_down = subst (λ (ds : List Fraction). AreCutDown c.args.cut ds (take (i + 1) c.args.vickrey.now)) (sym pushed)
          (AreCutDown-more c.args.cut c.loop-discount.discounts.items c.args.vickrey.now i c.discount_at.result c.loop-discount-test.true c.loop-discount.invariant.cut_down here);
      small = subst (λ (ds : List Fraction). All IsShort ds) (sym pushed) (All-more c.loop-discount.discounts.items c.discount_at.result c.loop-discount.invariant.small c.discount_at.ensures.small);
    }
