use Rattle.std.proofs.Common.{◌≡◌, ◌∙◌, ◌^◌, ◌*◌, ◌*ℤ◌, ◌≤ℤ◌, neg_ℤ, pos, ap, arith, to_z, of_z}
use mir.Syntax.{w128}
use Rattle.std.proofs.lemmas.Int.{ints}
use Rattle.ice_defs.proofs.Products.{product_high, product_low}
use Rattle.ice_fair.proofs.even.cut_worth.Goals as goal

-- the factors as they are read, and bounds of their product
product : (c : goal.Start) → to_z w128 (of_z w128 c.args.cut) *ℤ to_z w128 (of_z w128 c.args.worth) ≡ c.args.cut *ℤ c.args.worth
product c =
    let one : to_z w128 (of_z w128 c.args.cut) ≡ c.args.cut = omega (arith, ints, c.requires.cut_low, c.requires.cut_high) in
    let other : to_z w128 (of_z w128 c.args.worth) ≡ c.args.worth = omega (arith, ints, c.requires.low, c.requires.high) in
    ap (λ z. z *ℤ to_z w128 (of_z w128 c.args.worth)) one ∙ ap (λ z. c.args.cut *ℤ z) other

most : (c : goal.Start) → (c.args.cut *ℤ c.args.worth) ≤ℤ pos ((2 ^ 113) * 1000)
most c = product_high c.args.cut c.args.worth 1000 (2 ^ 113) (omega (arith, ints, c.requires.cut_low)) c.requires.cut_high c.requires.high

least : (c : goal.Start) → neg_ℤ (pos ((2 ^ 113) * 1000)) ≤ℤ (c.args.cut *ℤ c.args.worth)
least c = product_low c.args.cut c.args.worth 1000 (2 ^ 113) (omega (arith, ints, c.requires.cut_low)) c.requires.cut_high c.requires.low

pub overflow_mul-result : goal.overflow_mul-result
overflow_mul-result c = omega (arith, ints, product c, least c, most c)

pub returns-clause-value : goal.returns-clause-value
returns-clause-value c = ap (λ z. to_z w128 (of_z w128 z)) (product c) ∙ omega (arith, ints, least c, most c)

pub returns-clause-low : goal.returns-clause-low
returns-clause-low c = omega (arith, ints, returns-clause-value c, least c)

pub returns-clause-high : goal.returns-clause-high
returns-clause-high c = omega (arith, ints, returns-clause-value c, most c)
