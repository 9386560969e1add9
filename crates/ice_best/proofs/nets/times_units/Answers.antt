use Rattle.std.proofs.Common.{◌≡◌, ◌∙◌, ◌^◌, ◌*◌, ◌*ℤ◌, ◌≤ℤ◌, neg_ℤ, pos, ap, arith, to_z, of_z}
use mir.Syntax.{w128}
use Rattle.std.proofs.lemmas.Int.{ints}
use Rattle.ice_defs.proofs.Products.{product_high_of, product_low_of}
use Rattle.ice_best.proofs.nets.times_units.Goals as goal

-- the factors as they are read, and bounds of their product
product : (c : goal.After-from-2) → to_z w128 (of_z w128 c.from.result) *ℤ to_z w128 (of_z w128 c.from-2.result) ≡ c.args.rate *ℤ pos c.args.units
product c =
    let one : to_z w128 (of_z w128 c.from.result) ≡ c.args.rate = omega (arith, ints, c.from.ensures, c.requires.low, c.requires.high) in
    let other : to_z w128 (of_z w128 c.from-2.result) ≡ pos c.args.units = omega (arith, ints, c.from-2.ensures, c.requires.units) in
    ap (λ z. z *ℤ to_z w128 (of_z w128 c.from-2.result)) one ∙ ap (λ z. c.args.rate *ℤ z) other

most : (c : goal.After-from-2) → (c.args.rate *ℤ pos c.args.units) ≤ℤ pos ((2 ^ 62) * 1000)
most c = product_high_of c.args.rate (pos c.args.units) 1000 (2 ^ 62) (omega (arith, ints)) (omega (arith, ints, c.requires.units)) c.requires.high

least : (c : goal.After-from-2) → neg_ℤ (pos ((2 ^ 62) * 1000)) ≤ℤ (c.args.rate *ℤ pos c.args.units)
least c = product_low_of c.args.rate (pos c.args.units) 1000 (2 ^ 62) (omega (arith, ints)) (omega (arith, ints, c.requires.units)) c.requires.low

pub overflow_mul-result : goal.overflow_mul-result
overflow_mul-result c = omega (arith, ints, product c, least c, most c)

pub returns-clause-value : goal.returns-clause-value
returns-clause-value c = ap (λ z. to_z w128 (of_z w128 z)) (product c) ∙ omega (arith, ints, least c, most c)

pub returns-clause-low : goal.returns-clause-low
returns-clause-low c = omega (arith, ints, returns-clause-value c, least c)

pub returns-clause-high : goal.returns-clause-high
returns-clause-high c = omega (arith, ints, returns-clause-value c, most c)
