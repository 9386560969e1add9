use Rattle.std.proofs.Common.{◌≡◌, ◌∙◌, ◌^◌, ◌*◌, ◌*ℤ◌, ◌≤ℤ◌, neg_ℤ, pos, ap, arith, to_z, of_z}
use mir.Syntax.{w128}
use Rattle.std.proofs.lemmas.Int.{ints}
use Rattle.ice_defs.proofs.Products.{product_high, product_low}
use Rattle.ice_best.proofs.nets.times_scale.Goals as goal

-- the factors as they are read, and bounds of their product
product : (c : goal.After-from) → to_z w128 (of_z w128 c.from.result) *ℤ to_z w128 (of_z w128 c.args.weight) ≡ pos c.args.scale *ℤ c.args.weight
product c =
    let one : to_z w128 (of_z w128 c.from.result) ≡ pos c.args.scale = omega (arith, ints, c.from.ensures, c.requires.scale) in
    let other : to_z w128 (of_z w128 c.args.weight) ≡ c.args.weight = omega (arith, ints, c.requires.weight_low, c.requires.weight_high) in
    ap (λ z. z *ℤ to_z w128 (of_z w128 c.args.weight)) one ∙ ap (λ z. (pos c.args.scale) *ℤ z) other

most : (c : goal.After-from) → (pos c.args.scale *ℤ c.args.weight) ≤ℤ pos (1000000000000 * (2 ^ 32))
most c = product_high (pos c.args.scale) c.args.weight (2 ^ 32) 1000000000000 (omega (arith, ints)) (omega (arith, ints, c.requires.scale)) c.requires.weight_high

least : (c : goal.After-from) → neg_ℤ (pos (1000000000000 * (2 ^ 32))) ≤ℤ (pos c.args.scale *ℤ c.args.weight)
least c = product_low (pos c.args.scale) c.args.weight (2 ^ 32) 1000000000000 (omega (arith, ints)) (omega (arith, ints, c.requires.scale)) c.requires.weight_low

pub overflow_mul-result : goal.overflow_mul-result
overflow_mul-result c = omega (arith, ints, product c, least c, most c)

pub returns-clause-value : goal.returns-clause-value
returns-clause-value c = ap (λ z. to_z w128 (of_z w128 z)) (product c) ∙ omega (arith, ints, least c, most c)

pub returns-clause-low : goal.returns-clause-low
returns-clause-low c = omega (arith, ints, returns-clause-value c, least c)

pub returns-clause-high : goal.returns-clause-high
returns-clause-high c = omega (arith, ints, returns-clause-value c, most c)
