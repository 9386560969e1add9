use Rattle.std.proofs.Common.{◌≡◌, ℕ, ◌+◌, ◌<◌, List, [], ◌∷◌, ◌++◌, pos, rules, subst, sym, length, slice_index_or, All}
use Rattle.ice_defs.specs.Fraction.{Fraction, fraction_at}
use Rattle.ice_threshold.specs.CutOff.{IsPaid}
use Rattle.ice_threshold.specs.Limits.{IsShort}
use Rattle.ice_threshold.proofs.Paid.{ArePaid-more, All-more}
use Rattle.ice_threshold.proofs.payments.payments_at.Goals as goal

pub loop-i-preserved : goal.loop-i-preserved
loop-i-preserved c =
    let pushed : c.push.new.self.items ≡ c.loop-i.payments.items ++ c.payment_at.result ∷ [] = search rules in
    let here : IsPaid c.args.cut c.payment_at.result (slice_index_or c.args.values.now c.loop-i.i (pos 0)) (slice_index_or c.args.vickrey.now c.loop-i.i (pos 0)) = search rules in
    let more : length c.push.new.self.items ≡ c.loop-i.i + 1 = search rules in
    record {
      same_length = more;
      each = subst (λ (ps : List Fraction). (k : ℕ) → k < c.loop-i.i + 1 → IsPaid c.args.cut (fraction_at ps k) (slice_index_or c.args.values.now k (pos 0)) (slice_index_or c.args.vickrey.now k (pos 0))) (sym pushed)
          (ArePaid-more c.args.cut c.loop-i.payments.items c.args.values.now c.args.vickrey.now c.loop-i.i c.payment_at.result c.loop-i.invariant.same_length c.loop-i.invariant.each here);
      small = subst (λ (ps : List Fraction). All IsShort ps) (sym pushed) (All-more c.loop-i.payments.items c.payment_at.result c.loop-i.invariant.small c.payment_at.ensures.small);
    }
