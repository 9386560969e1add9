use Rattle.std.proofs.Common.{◌≡◌, ◌∙◌, ◌^◌, ◌*◌, ◌*ℤ◌, ◌≤ℤ◌, neg_ℤ, pos, ap, arith, to_z, of_z}
use mir.Syntax.{w128}
use Rattle.std.proofs.lemmas.Int.{ints}
use Rattle.ice_defs.proofs.Products.{product_high_of, product_low_of}
use Rattle.ice_fair.proofs.gaps.paid_part.Goals as goal

-- the factors as they are read, and bounds of their product
product : (c : goal.After-from) → to_z w128 (of_z w128 c.args.num) *ℤ to_z w128 (of_z w128 c.from.result) ≡ c.args.num *ℤ c.args.den
product c =
    let one : to_z w128 (of_z w128 c.args.num) ≡ c.args.num = omega (arith, ints, c.requires.num_low, c.requires.num_high) in
    let other : to_z w128 (of_z w128 c.from.result) ≡ c.args.den = omega (arith, ints, c.from.ensures, c.requires.den_low, c.requires.den_high) in
    ap (λ z. z *ℤ to_z w128 (of_z w128 c.from.result)) one ∙ ap (λ z. c.args.num *ℤ z) other

most : (c : goal.After-from) → (c.args.num *ℤ c.args.den) ≤ℤ pos ((10 ^ 21) * (2 ^ 32))
most c = product_high_of c.args.num c.args.den (2 ^ 32) (10 ^ 21) c.requires.den_low c.requires.den_high c.requires.num_high

least : (c : goal.After-from) → neg_ℤ (pos ((10 ^ 21) * (2 ^ 32))) ≤ℤ (c.args.num *ℤ c.args.den)
least c = product_low_of c.args.num c.args.den (2 ^ 32) (10 ^ 21) c.requires.den_low c.requires.den_high c.requires.num_low

pub overflow_mul-result : goal.overflow_mul-result
overflow_mul-result c = omega (arith, ints, product c, least c, most c)

pub returns-clause-value : goal.returns-clause-value
returns-clause-value c = ap (λ z. to_z w128 (of_z w128 z)) (product c) ∙ omega (arith, ints, least c, most c)

pub returns-clause-low : goal.returns-clause-low
returns-clause-low c = omega (arith, ints, returns-clause-value c, least c)

pub returns-clause-high : goal.returns-clause-high
returns-clause-high c = omega (arith, ints, returns-clause-value c, most c)
