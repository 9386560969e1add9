use Rattle.std.proofs.Common.{◌≡◌, ◌∙◌, ap, pos, ◌-ℤ◌, ◌*ℤ◌, arith, rules, to_z, of_z}
use mir.Syntax.{w128}
use Rattle.std.proofs.lemmas.Int.{ints}
use Rattle.ice_defs.specs.Pricing.{top_of}
use Rattle.ice_certificate.proofs.sums.RowSums.worth_at_top.Goals as goal

pub overflow_sub-result : goal.overflow_sub-result
overflow_sub-result c = omega (arith, ints, c.times_den.ensures.low, c.times_den.ensures.high, c.times_top.ensures.low, c.times_top.ensures.high)

pub returns-clause-value : goal.returns-clause-value
returns-clause-value c =
    let worth : c.times_den.result ≡ pos c.args.prices.now.den *ℤ c.args.self.now.worth = search rules in
    let cost : c.times_top.result ≡ pos c.args.den *ℤ top_of c.args.prices.now = search rules in
    let made : to_z w128 (of_z w128 (to_z w128 (of_z w128 c.times_den.result) -ℤ to_z w128 (of_z w128 (pos 100 *ℤ to_z w128 (of_z w128 c.times_top.result))))) ≡ c.times_den.result -ℤ (pos 100 *ℤ c.times_top.result) =
    omega (arith, ints, c.times_den.ensures.low, c.times_den.ensures.high, c.times_top.ensures.low, c.times_top.ensures.high) in
    made ∙ ap (λ z. z -ℤ (pos 100 *ℤ c.times_top.result)) worth ∙ ap (λ z. (pos c.args.prices.now.den *ℤ c.args.self.now.worth) -ℤ (pos 100 *ℤ z)) cost

pub returns-clause-low : goal.returns-clause-low
returns-clause-low c = omega (arith, ints, c.times_den.ensures.low, c.times_den.ensures.high, c.times_top.ensures.low, c.times_top.ensures.high)

pub returns-clause-high : goal.returns-clause-high
returns-clause-high c = omega (arith, ints, c.times_den.ensures.low, c.times_den.ensures.high, c.times_top.ensures.low, c.times_top.ensures.high)
