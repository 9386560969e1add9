use Rattle.std.proofs.Common.{◌≡◌, ◌∙◌, ◌^◌, ◌*◌, ◌*ℤ◌, ◌≤ℤ◌, neg_ℤ, pos, ap, arith, to_z, of_z}
use mir.Syntax.{w128}
use Rattle.std.proofs.lemmas.Int.{ints}
use Rattle.ice_defs.proofs.Products.{product_high, product_low}
use Rattle.ice_fair.proofs.even.den_worth.Goals as goal

-- the factors as they are read, and bounds of their product
product : (c : goal.Start) → to_z w128 (of_z w128 c.args.den) *ℤ to_z w128 (of_z w128 c.args.worth) ≡ c.args.den *ℤ c.args.worth
product c =
    let one : to_z w128 (of_z w128 c.args.den) ≡ c.args.den = omega (arith, ints, c.requires.den_low, c.requires.den_high) in
    let other : to_z w128 (of_z w128 c.args.worth) ≡ c.args.worth = omega (arith, ints, c.requires.low, c.requires.high) in
    ap (λ z. z *ℤ to_z w128 (of_z w128 c.args.worth)) one ∙ ap (λ z. c.args.den *ℤ z) other

most : (c : goal.Start) → (c.args.den *ℤ c.args.worth) ≤ℤ pos ((2 ^ 81) * (2 ^ 32))
most c = product_high c.args.den c.args.worth (2 ^ 32) (2 ^ 81) c.requires.den_low c.requires.den_high c.requires.high

least : (c : goal.Start) → neg_ℤ (pos ((2 ^ 81) * (2 ^ 32))) ≤ℤ (c.args.den *ℤ c.args.worth)
least c = product_low c.args.den c.args.worth (2 ^ 32) (2 ^ 81) c.requires.den_low c.requires.den_high c.requires.low

pub overflow_mul-result : goal.overflow_mul-result
overflow_mul-result c = omega (arith, ints, product c, least c, most c)

pub returns-clause-value : goal.returns-clause-value
returns-clause-value c = ap (λ z. to_z w128 (of_z w128 z)) (product c) ∙ omega (arith, ints, least c, most c)

pub returns-clause-low : goal.returns-clause-low
returns-clause-low c = omega (arith, ints, returns-clause-value c, least c)

pub returns-clause-high : goal.returns-clause-high
returns-clause-high c = omega (arith, ints, returns-clause-value c, most c)
