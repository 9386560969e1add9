use Rattle.std.proofs.Common.{ℕ, ℤ, ◌≡◌, ◌≤◌, ◌∙◌, ◌+◌, length, ap, sym, subst, arith, to_z, of_z}
use Rattle.std.specs.Int.{int_max}
use mir.Syntax.{w128}
use Rattle.std.proofs.lemmas.Int.{ints}
use Rattle.ice_defs.specs.Prices.{Prices}
use Rattle.ice_fair_laws.specs.Fair.{PaidTrade}
use Rattle.ice_fair_laws.specs.Whole.{gap_num}
use Rattle.ice_fair.specs.Trades.{num_at, paid_by}
use Rattle.ice_fair.proofs.Nearness.{IsSize, IsGapBelow, gap-first, gap-more, gap-all}
use Rattle.ice_fair.proofs.gaps.greatest_gap.Goals as goal

-- a size of the same number
sized : (t : PaidTrade) (p : Prices) (n : ℕ) (a : ℕ → ℤ) (x z v : ℤ) → x ≡ z → IsSize t p n a x v → IsSize t p n a z v
sized t p n a x z v e is = subst (λ y. IsSize t p n a y v) e is

pub loop-bidder-init : goal.loop-bidder-init
loop-bidder-init c =
    let t : PaidTrade = paid_by c.args.paid.now.trade c.args.paid.now.cut c.args.paid.now.nums.now in
    let number : to_z w128 (of_z w128 c.gap.result) ≡ c.gap.result = omega (arith, ints, c.gap.ensures.low, c.gap.ensures.high) in
    let read : to_z w128 (of_z w128 c.size_of-greatest.result) ≡ c.size_of-greatest.result = omega (arith, ints, c.size_of-greatest.ensures.low, c.size_of-greatest.ensures.high) in
    let is = sized t c.args.prices.now c.args.paid.now.cut (num_at c.args.paid.now.nums.now) (to_z w128 (of_z w128 c.gap.result)) (gap_num t c.args.prices.now c.args.paid.now.cut (num_at c.args.paid.now.nums.now) 0) c.size_of-greatest.result
    (number ∙ c.gap.ensures.value)
    (record { over = c.size_of-greatest.ensures.over; under = c.size_of-greatest.ensures.under; is = c.size_of-greatest.ensures.is; low = c.size_of-greatest.ensures.low; high = c.size_of-greatest.ensures.high }) in
    subst (IsGapBelow t c.args.prices.now c.args.paid.now.cut (num_at c.args.paid.now.nums.now) 1) (sym read) (gap-first t c.args.prices.now c.args.paid.now.cut (num_at c.args.paid.now.nums.now) c.size_of-greatest.result is)

pub loop-bidder-preserved : goal.loop-bidder-preserved
loop-bidder-preserved c =
    let t : PaidTrade = paid_by c.args.paid.now.trade c.args.paid.now.cut c.args.paid.now.nums.now in
    let k : ℕ = c.loop-bidder.bidder in
    let old : ℤ = to_z w128 c.loop-bidder.greatest-bits in
    let number : to_z w128 (of_z w128 c.gap-in-loop-bidder.result) ≡ c.gap-in-loop-bidder.result = omega (arith, ints, c.gap-in-loop-bidder.ensures.low, c.gap-in-loop-bidder.ensures.high) in
    let read : to_z w128 (of_z w128 c.size_of.result) ≡ c.size_of.result = omega (arith, ints, c.size_of.ensures.low, c.size_of.ensures.high) in
    let is = sized t c.args.prices.now c.args.paid.now.cut (num_at c.args.paid.now.nums.now) (to_z w128 (of_z w128 c.gap-in-loop-bidder.result)) (gap_num t c.args.prices.now c.args.paid.now.cut (num_at c.args.paid.now.nums.now) k) c.size_of.result
    (number ∙ c.gap-in-loop-bidder.ensures.value)
    (record { over = c.size_of.ensures.over; under = c.size_of.ensures.under; is = c.size_of.ensures.is; low = c.size_of.ensures.low; high = c.size_of.ensures.high }) in
    let more = gap-more t c.args.prices.now c.args.paid.now.cut (num_at c.args.paid.now.nums.now) k old c.size_of.result c.loop-bidder.invariant is in
    let made : c.greater-greatest.result ≡ int_max old c.size_of.result = c.greater-greatest.ensures ∙ ap (λ z. int_max old z) read in
    let same : to_z w128 (of_z w128 c.greater-greatest.result) ≡ c.greater-greatest.result = omega (arith, ints, made, more.low, more.high) in
    subst (IsGapBelow t c.args.prices.now c.args.paid.now.cut (num_at c.args.paid.now.nums.now) (k + 1)) (sym (same ∙ made)) more

pub returns-clause-greatest : goal.returns-clause-greatest
returns-clause-greatest c =
    let t : PaidTrade = paid_by c.args.paid.now.trade c.args.paid.now.cut c.args.paid.now.nums.now in
    let some : 1 ≤ c.bidders-bidders.result = omega (arith, c.bidders-bidders.ensures.value, c.bidders-bidders.ensures.proper.bidders.0) in
    let e : c.loop-bidder.bidder ≡ length c.args.paid.now.trade.trees = omega (arith, c.bidders-bidders.ensures.value, c.loop-bidder-test.false, c.loop-bidder.auto.bidder-end some) in
    gap-all t c.args.prices.now c.args.paid.now.cut (num_at c.args.paid.now.nums.now) (to_z w128 c.loop-bidder.greatest-bits)
    (subst (λ n. IsGapBelow t c.args.prices.now c.args.paid.now.cut (num_at c.args.paid.now.nums.now) n (to_z w128 c.loop-bidder.greatest-bits)) e c.loop-bidder.invariant)
