use Rattle.std.proofs.Common.{◌∙◌, ◌^◌, ◌*◌, ◌*ℤ◌, ◌≤ℤ◌, neg_ℤ, pos, ap, arith, to_z, of_z}
use mir.Syntax.{w128}
use Rattle.std.proofs.lemmas.Int.{ints}
use Rattle.ice_defs.proofs.Products.{product_high, product_low}
use Rattle.ice_certificate.proofs.Products.{product_read}
use Rattle.ice_certificate.proofs.certified.times_den.Goals as goal

-- bounds of the product
most : (c : goal.After-from) → (pos c.args.den *ℤ c.args.number) ≤ℤ pos ((2 ^ 89) * (2 ^ 32))
most c = product_high (pos c.args.den) c.args.number (2 ^ 32) (2 ^ 89) (omega (arith, ints)) (omega (arith, ints, c.requires.den)) c.requires.high

least : (c : goal.After-from) → neg_ℤ (pos ((2 ^ 89) * (2 ^ 32))) ≤ℤ (pos c.args.den *ℤ c.args.number)
least c = product_low (pos c.args.den) c.args.number (2 ^ 32) (2 ^ 89) (omega (arith, ints)) (omega (arith, ints, c.requires.den)) c.requires.low

pub overflow_mul-result : goal.overflow_mul-result
overflow_mul-result c = omega (arith, ints, product_read _ _ _ c.from.ensures c.requires.den c.requires.low c.requires.high, least c, most c)

pub returns-clause-value : goal.returns-clause-value
returns-clause-value c = ap (λ z. to_z w128 (of_z w128 z)) (product_read _ _ _ c.from.ensures c.requires.den c.requires.low c.requires.high) ∙ omega (arith, ints, least c, most c)

pub returns-clause-low : goal.returns-clause-low
returns-clause-low c = omega (arith, ints, returns-clause-value c, least c)

pub returns-clause-high : goal.returns-clause-high
returns-clause-high c = omega (arith, ints, returns-clause-value c, most c)
