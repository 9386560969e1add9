use Rattle.std.proofs.Common.{◌≡◌, ◌∙◌, ◌^◌, ◌*◌, ◌*ℤ◌, ◌≤ℤ◌, neg_ℤ, pos, ap, arith, to_z, of_z}
use mir.Syntax.{w128}
use Rattle.std.proofs.lemmas.Int.{ints}
use Rattle.ice_defs.proofs.Products.{product_high, product_low}
use Rattle.ice_fair.proofs.gaps.part.Goals as goal

-- the factors as they are read, and bounds of their product
product : (c : goal.After-from) → to_z w128 (of_z w128 c.args.num) *ℤ to_z w128 (of_z w128 c.from.result) ≡ c.args.num *ℤ c.args.units
product c =
    let one : to_z w128 (of_z w128 c.args.num) ≡ c.args.num = omega (arith, ints, c.requires.num_low, c.requires.num_high) in
    let other : to_z w128 (of_z w128 c.from.result) ≡ c.args.units = omega (arith, ints, c.from.ensures, c.requires.units_low, c.requires.units_high) in
    ap (λ z. z *ℤ to_z w128 (of_z w128 c.from.result)) one ∙ ap (λ z. c.args.num *ℤ z) other

most : (c : goal.After-from) → (c.args.num *ℤ c.args.units) ≤ℤ pos (200000 * (2 ^ 62))
most c = product_high c.args.num c.args.units (2 ^ 62) 200000 c.requires.num_low c.requires.num_high c.requires.units_high

least : (c : goal.After-from) → neg_ℤ (pos (200000 * (2 ^ 62))) ≤ℤ (c.args.num *ℤ c.args.units)
least c = product_low c.args.num c.args.units (2 ^ 62) 200000 c.requires.num_low c.requires.num_high c.requires.units_low

pub overflow_mul-result : goal.overflow_mul-result
overflow_mul-result c = omega (arith, ints, product c, least c, most c)

pub returns-clause-value : goal.returns-clause-value
returns-clause-value c = ap (λ z. to_z w128 (of_z w128 z)) (product c) ∙ omega (arith, ints, least c, most c)

pub returns-clause-low : goal.returns-clause-low
returns-clause-low c = omega (arith, ints, returns-clause-value c, least c)

pub returns-clause-high : goal.returns-clause-high
returns-clause-high c = omega (arith, ints, returns-clause-value c, most c)
