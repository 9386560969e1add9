use Rattle.std.proofs.Common.{◌≡◌, length, ◌<◌, ◌<ℤ◌, ◌≤ℤ◌, arith, sym, subst, ◌∙◌, to_z, of_z, ◌+◌}
use mir.Syntax.{w128}
use Rattle.std.proofs.lemmas.Int.{ints}
use Rattle.ice_defs.proofs.Integers.{int_lt-false}
use Rattle.ice_pricing.proofs.Violations.{IsGreatestBelow, greatest-passed, greatest-taken, greatest-all, below_from_true}
use Rattle.ice_pricing.proofs.provisional.Provisional.violation.Goals as goal
use Rattle.ice_pricing.proofs.provisional.Provisional.violation.Goals.{then-amount-greatest, else-amount-greatest}

pub loop-bidder-preserved : goal.loop-bidder-preserved
loop-bidder-preserved c =
    let same : to_z w128 (of_z w128 c.best-amount.result.amount) ≡ c.best-amount.result.amount = omega (arith, ints, c.best-amount.ensures.low, c.best-amount.ensures.high) in
    let there : c.loop-bidder.bidder < length c.args.self.now.trees = omega (arith, c.loop-bidder-test.true, c.bidders-bidder-end.ensures.value) in
    elim c.if-amount-greatest.branch [
      | then-amount-greatest w ↦
          let above : to_z w128 c.loop-bidder.greatest-bits <ℤ c.best-amount.result.amount = omega (arith, ints, below_from_true (to_z w128 c.loop-bidder.greatest-bits) (to_z w128 (of_z w128 c.best-amount.result.amount)) w.if-amount-greatest.true, same) in
          subst (IsGreatestBelow c.args.self.now c.args.prices.now (c.loop-bidder.bidder + 1)) (sym (w.greatest-is ∙ same))
          (greatest-taken c.args.self.now c.args.prices.now c.loop-bidder.bidder c.best-amount.result.set c.best-amount.result.amount (to_z w128 c.loop-bidder.greatest-bits) there c.loop-bidder.invariant c.best-amount.ensures.greatest above c.best-amount.ensures.high)
      | else-amount-greatest w ↦
          let most : c.best-amount.result.amount ≤ℤ to_z w128 c.loop-bidder.greatest-bits = omega (arith, ints, int_lt-false (to_z w128 c.loop-bidder.greatest-bits) (to_z w128 (of_z w128 c.best-amount.result.amount)) w.if-amount-greatest.false, same) in
          subst (IsGreatestBelow c.args.self.now c.args.prices.now (c.loop-bidder.bidder + 1)) (sym w.greatest-is)
          (greatest-passed c.args.self.now c.args.prices.now c.loop-bidder.bidder c.best-amount.result.set c.best-amount.result.amount (to_z w128 c.loop-bidder.greatest-bits) c.loop-bidder.invariant c.best-amount.ensures.greatest most)
    ]

pub returns-clause-violation : goal.returns-clause-violation
returns-clause-violation c =
    let there : c.loop-bidder.bidder ≡ length c.args.self.now.trees = omega (arith, c.bidders-bidder-end.ensures.value, c.loop-bidder-test.false, c.loop-bidder.auto.bidder-end) in
    greatest-all c.args.self.now c.args.prices.now _ c.bidders-bidder-end.ensures.proper (subst (λ n. IsGreatestBelow c.args.self.now c.args.prices.now n (to_z w128 c.loop-bidder.greatest-bits)) there c.loop-bidder.invariant)
