use Rattle.std.proofs.Common.{◌≡◌, ◌∙◌, ◌^◌, ◌*◌, ◌*ℤ◌, ◌≤ℤ◌, pos, ap, arith, to_z, of_z}
use mir.Syntax.{w128}
use Rattle.std.proofs.lemmas.Int.{ints}
use Rattle.ice_defs.proofs.Products.{product_high, product_not_negative}
use Rattle.ice_fair.proofs.even.cert_gap.Goals as goal

-- the factors as they are read, and bounds of their product
product : (c : goal.Start) → to_z w128 (of_z w128 c.args.cert_den) *ℤ to_z w128 (of_z w128 c.args.gap) ≡ c.args.cert_den *ℤ c.args.gap
product c =
    let one : to_z w128 (of_z w128 c.args.cert_den) ≡ c.args.cert_den = omega (arith, ints, c.requires.den_low, c.requires.den_high) in
    let other : to_z w128 (of_z w128 c.args.gap) ≡ c.args.gap = omega (arith, ints, c.requires.low, c.requires.high) in
    ap (λ z. z *ℤ to_z w128 (of_z w128 c.args.gap)) one ∙ ap (λ z. c.args.cert_den *ℤ z) other

most : (c : goal.Start) → (c.args.cert_den *ℤ c.args.gap) ≤ℤ pos ((2 ^ 102) * (2 ^ 24))
most c = product_high c.args.cert_den c.args.gap (2 ^ 24) (2 ^ 102) c.requires.den_low c.requires.den_high c.requires.high

least : (c : goal.Start) → pos 0 ≤ℤ (c.args.cert_den *ℤ c.args.gap)
least c = product_not_negative c.args.cert_den c.args.gap c.requires.den_low c.requires.low

pub overflow_mul-result : goal.overflow_mul-result
overflow_mul-result c = omega (arith, ints, product c, least c, most c)

pub returns-clause-value : goal.returns-clause-value
returns-clause-value c = ap (λ z. to_z w128 (of_z w128 z)) (product c) ∙ omega (arith, ints, least c, most c)

pub returns-clause-low : goal.returns-clause-low
returns-clause-low c = omega (arith, ints, returns-clause-value c, least c)

pub returns-clause-high : goal.returns-clause-high
returns-clause-high c = omega (arith, ints, returns-clause-value c, most c)
