use Rattle.std.proofs.Common.{◌≡◌, ◌∙◌, ◌^◌, ap, pos, ◌*ℤ◌, arith, to_z, of_z, slice_index_or}
use mir.Syntax.{w64, w128}
use Rattle.std.proofs.lemmas.Int.{ints}
use Rattle.ice_defs.specs.Prices.{cost_of}
use Rattle.ice_defs.specs.Set.{units}
use Rattle.ice_defs.specs.Trade.{tree_of, set_of}
use Rattle.ice_row_laws.specs.Sizes.{IsSizedWithin}
use Rattle.ice_fair.specs.Trades.{num_at}
use Rattle.ice_fair.proofs.gaps.gap.Goals as goal

pub returns-clause-value : goal.returns-clause-value
returns-clause-value c =
    let sized : IsSizedWithin (10 ^ 21) (num_at c.args.paid.now.nums.now c.args.bidder) = c.requires.numbers.sized c.args.bidder (omega (arith, c.requires.bidder, c.requires.numbers.count)) in
    let num : to_z w128 (of_z w128 (slice_index_or c.args.paid.now.nums.now c.args.bidder (pos 0))) ≡ num_at c.args.paid.now.nums.now c.args.bidder = omega (arith, ints, sized.low, sized.high) in
    let den : to_z w64 (of_z w64 c.den.result) ≡ pos c.args.prices.now.den = omega (arith, ints, c.den.ensures.den, c.den.ensures.limits.den.1) in
    let cost : to_z w128 (of_z w128 c.own_cost.result) ≡ c.own_cost.result = omega (arith, ints, c.own_cost.ensures.low, c.own_cost.ensures.high) in
    let paid : c.paid_part.result ≡ num_at c.args.paid.now.nums.now c.args.bidder *ℤ pos c.args.prices.now.den =
    c.paid_part.ensures.value ∙ ap (λ z. z *ℤ to_z w64 (of_z w64 c.den.result)) num ∙ ap (λ z. num_at c.args.paid.now.nums.now c.args.bidder *ℤ z) den in
    let cut : c.cut_part.result ≡ pos c.args.paid.now.cut *ℤ cost_of c.args.prices.now (units (tree_of c.args.paid.now.trade.trees c.args.bidder) (set_of c.args.paid.now.trade.sets c.args.bidder)) =
    c.cut_part.ensures.value ∙ ap (λ z. pos c.args.paid.now.cut *ℤ z) (cost ∙ c.own_cost.ensures.value) in
    omega (arith, ints, paid, cut, c.paid_part.ensures.low, c.paid_part.ensures.high, c.cut_part.ensures.low, c.cut_part.ensures.high)

pub returns-clause-low : goal.returns-clause-low
returns-clause-low c = omega (arith, ints, c.paid_part.ensures.low, c.paid_part.ensures.high, c.cut_part.ensures.low, c.cut_part.ensures.high)

pub returns-clause-high : goal.returns-clause-high
returns-clause-high c = omega (arith, ints, c.paid_part.ensures.low, c.paid_part.ensures.high, c.cut_part.ensures.low, c.cut_part.ensures.high)
