use Rattle.std.proofs.Common.{◌≡◌, ◌∙◌, ◌^◌, ◌*◌, ◌*ℤ◌, ◌≤ℤ◌, pos, ap, arith, to_z, of_z}
use mir.Syntax.{w128}
use Rattle.std.proofs.lemmas.Int.{ints}
use Rattle.ice_defs.proofs.Products.{product_high, product_not_negative}
use Rattle.ice_certificate.proofs.certified.times_top.Goals as goal

-- the factors as they are read, and bounds of their product
product : (c : goal.After-from) → to_z w128 (of_z w128 c.from.result) *ℤ to_z w128 (of_z w128 c.args.top) ≡ pos c.args.den *ℤ c.args.top
product c =
    let one : to_z w128 (of_z w128 c.from.result) ≡ pos c.args.den = omega (arith, ints, c.from.ensures, c.requires.den) in
    let other : to_z w128 (of_z w128 c.args.top) ≡ c.args.top = omega (arith, ints, c.requires.low, c.requires.high) in
    ap (λ z. z *ℤ to_z w128 (of_z w128 c.args.top)) one ∙ ap (λ z. (pos c.args.den) *ℤ z) other

most : (c : goal.After-from) → (pos c.args.den *ℤ c.args.top) ≤ℤ pos ((2 ^ 63) * (2 ^ 32))
most c = product_high (pos c.args.den) c.args.top (2 ^ 32) (2 ^ 63) (omega (arith, ints)) (omega (arith, ints, c.requires.den)) c.requires.high

least : (c : goal.After-from) → pos 0 ≤ℤ (pos c.args.den *ℤ c.args.top)
least c = product_not_negative (pos c.args.den) c.args.top (omega (arith, ints)) c.requires.low

pub overflow_mul-result : goal.overflow_mul-result
overflow_mul-result c = omega (arith, ints, product c, least c, most c)

pub returns-clause-value : goal.returns-clause-value
returns-clause-value c = ap (λ z. to_z w128 (of_z w128 z)) (product c) ∙ omega (arith, ints, least c, most c)

pub returns-clause-low : goal.returns-clause-low
returns-clause-low c = omega (arith, ints, returns-clause-value c, least c)

pub returns-clause-high : goal.returns-clause-high
returns-clause-high c = omega (arith, ints, returns-clause-value c, most c)
