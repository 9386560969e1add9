use Rattle.std.proofs.Common.{◌≡◌, ◌∙◌, ◌*◌, ◌^◌, ap, ◌*ℤ◌, arith, to_z, of_z}
use mir.Syntax.{w128}
use Rattle.std.proofs.lemmas.Int.{ints}
use Rattle.ice_row_laws.specs.Sizes.{IsSizedWithin}
use Rattle.ice_turns.proofs.Signed.{product-within}
use Rattle.ice_fair.proofs.held.of_payment.Goals as goal

pub returns-clause-value : goal.returns-clause-value
returns-clause-value c =
    let is : IsSizedWithin (2 ^ 24 * 10 ^ 21) (c.args.held *ℤ c.args.num) = product-within c.args.held c.args.num (2 ^ 24) (10 ^ 21) c.requires.held_low c.requires.held_high (record { low = c.requires.low; high = c.requires.high }) in
    let held : to_z w128 (of_z w128 c.args.held) ≡ c.args.held = omega (arith, ints, c.requires.held_low, c.requires.held_high) in
    let num : to_z w128 (of_z w128 c.args.num) ≡ c.args.num = omega (arith, ints, c.requires.low, c.requires.high) in
    let both : to_z w128 (of_z w128 c.args.held) *ℤ to_z w128 (of_z w128 c.args.num) ≡ c.args.held *ℤ c.args.num =
    ap (λ z. z *ℤ to_z w128 (of_z w128 c.args.num)) held ∙ ap (λ z. c.args.held *ℤ z) num in
    omega (arith, ints, both, is.low, is.high)

pub returns-clause-low : goal.returns-clause-low
returns-clause-low c =
    let is : IsSizedWithin (2 ^ 24 * 10 ^ 21) (c.args.held *ℤ c.args.num) = product-within c.args.held c.args.num (2 ^ 24) (10 ^ 21) c.requires.held_low c.requires.held_high (record { low = c.requires.low; high = c.requires.high }) in
    let value = returns-clause-value c in
    omega (arith, ints, value, is.low, is.high)

pub returns-clause-high : goal.returns-clause-high
returns-clause-high c =
    let is : IsSizedWithin (2 ^ 24 * 10 ^ 21) (c.args.held *ℤ c.args.num) = product-within c.args.held c.args.num (2 ^ 24) (10 ^ 21) c.requires.held_low c.requires.held_high (record { low = c.requires.low; high = c.requires.high }) in
    let value = returns-clause-value c in
    omega (arith, ints, value, is.low, is.high)
