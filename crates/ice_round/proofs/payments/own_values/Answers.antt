use Rattle.std.proofs.Common.{◌≡◌, ◌∙◌, ◌++◌, [], ◌∷◌, ℕ, ℤ, sym, subst, rules, All}
use Rattle.std.proofs.lemmas.List.Elements.{All-push}
use Rattle.ice_defs.specs.Set.{value}
use Rattle.ice_defs.specs.Trade.{set_of, weights_of}
use Rattle.ice_defs.specs.Weighing.{lower_weights}
use Rattle.ice_threshold.specs.Limits.{IsValueLimit}
use Rattle.ice_round.proofs.Limiting.{value_limit, more_of}
use Rattle.ice_round.proofs.payments.own_values.Goals as goal

pub loop-bidder-preserved : goal.loop-bidder-preserved
loop-bidder-preserved c =
    let own : ℕ → ℤ = λ b. value (set_of c.args.sets.now b) (weights_of (lower_weights c.args.bounds.now) b) in
    let v = c.own_value.result in
    let before = c.loop-bidder.values.items in
    let pushed : c.push.new.self.items ≡ before ++ v ∷ [] = search rules in
    record {
      value = pushed ∙ more_of own before c.loop-bidder.bidder v c.loop-bidder.invariant.value c.own_value.ensures.value;
      limited = subst (All IsValueLimit) (sym pushed) (All-push IsValueLimit before v c.loop-bidder.invariant.limited (value_limit v c.own_value.ensures.low c.own_value.ensures.high));
    }
