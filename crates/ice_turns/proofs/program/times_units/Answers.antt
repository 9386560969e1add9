use Rattle.std.proofs.Common.{◌≡◌, ◌∙◌, ◌*◌, ◌^◌, ap, ◌*ℤ◌, arith, to_z, of_z}
use mir.Syntax.{w128}
use Rattle.std.proofs.lemmas.Int.{ints}
use Rattle.ice_row_laws.specs.Sizes.{IsSizedWithin}
use Rattle.ice_turns.proofs.Signed.{product-within}
use Rattle.ice_turns.proofs.program.times_units.Goals as goal

pub returns-clause-value : goal.returns-clause-value
returns-clause-value c =
    let is : IsSizedWithin ((100 * 2 ^ 32) * 2 ^ 19) (c.args.factor *ℤ c.args.units) =
    product-within c.args.factor c.args.units (100 * 2 ^ 32) (2 ^ 19) c.requires.factor_low c.requires.factor_high (record { low = c.requires.low; high = c.requires.high }) in
    let factor : to_z w128 (of_z w128 c.args.factor) ≡ c.args.factor = omega (arith, ints, c.requires.factor_low, c.requires.factor_high) in
    let units : to_z w128 (of_z w128 c.args.units) ≡ c.args.units = omega (arith, ints, c.requires.low, c.requires.high) in
    let both : to_z w128 (of_z w128 c.args.factor) *ℤ to_z w128 (of_z w128 c.args.units) ≡ c.args.factor *ℤ c.args.units =
    ap (λ z. z *ℤ to_z w128 (of_z w128 c.args.units)) factor ∙ ap (λ z. c.args.factor *ℤ z) units in
    omega (arith, ints, both, is.low, is.high)

pub returns-clause-sized : goal.returns-clause-sized
returns-clause-sized c =
    let is : IsSizedWithin ((100 * 2 ^ 32) * 2 ^ 19) (c.args.factor *ℤ c.args.units) =
    product-within c.args.factor c.args.units (100 * 2 ^ 32) (2 ^ 19) c.requires.factor_low c.requires.factor_high (record { low = c.requires.low; high = c.requires.high }) in
    let value = returns-clause-value c in
    omega (arith, ints, value, is.low, is.high)
