use Rattle.std.proofs.Common.{◌≡◌, ◌∙◌, ◌^◌, ◌*◌, ◌*ℤ◌, ◌≤ℤ◌, pos, ap, arith, to_z, of_z}
use mir.Syntax.{w128}
use Rattle.std.proofs.lemmas.Int.{ints}
use Rattle.ice_defs.proofs.Products.{product_high, product_not_negative}
use Rattle.ice_certificate.proofs.certified.cap_cost.Goals as goal

-- the factors as they are read, and bounds of their product
product : (c : goal.After-from) → to_z w128 (of_z w128 c.from.result) *ℤ to_z w128 (of_z w128 c.args.wanted) ≡ c.args.cap *ℤ c.args.wanted
product c =
    let one : to_z w128 (of_z w128 c.from.result) ≡ c.args.cap = omega (arith, ints, c.from.ensures, c.requires.cap_low, c.requires.cap_high) in
    let other : to_z w128 (of_z w128 c.args.wanted) ≡ c.args.wanted = omega (arith, ints, c.requires.low, c.requires.high) in
    ap (λ z. z *ℤ to_z w128 (of_z w128 c.args.wanted)) one ∙ ap (λ z. c.args.cap *ℤ z) other

most : (c : goal.After-from) → (c.args.cap *ℤ c.args.wanted) ≤ℤ pos ((2 ^ 64) * 1000000000)
most c = product_high c.args.cap c.args.wanted 1000000000 (2 ^ 64) c.requires.cap_low c.requires.cap_high c.requires.high

least : (c : goal.After-from) → pos 0 ≤ℤ (c.args.cap *ℤ c.args.wanted)
least c = product_not_negative c.args.cap c.args.wanted c.requires.cap_low c.requires.low

pub overflow_mul-result : goal.overflow_mul-result
overflow_mul-result c = omega (arith, ints, product c, least c, most c)

pub returns-clause-value : goal.returns-clause-value
returns-clause-value c = ap (λ z. to_z w128 (of_z w128 z)) (product c) ∙ omega (arith, ints, least c, most c)

pub returns-clause-low : goal.returns-clause-low
returns-clause-low c = omega (arith, ints, returns-clause-value c, least c)

pub returns-clause-high : goal.returns-clause-high
returns-clause-high c = omega (arith, ints, returns-clause-value c, most c)
