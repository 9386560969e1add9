use Rattle.std.proofs.Common.{ℕ, ℤ, ◌≡◌, ◌∙◌, ◌^◌, ◌*◌, ◌≤◌, ◌*ℤ◌, ◌≤ℤ◌, neg_ℤ, pos, ap, arith, to_z, of_z}
use mir.Syntax.{w128}
use Rattle.std.proofs.lemmas.Int.{ints}
use Rattle.ice_check_charge.specs.Tests.{IsWorth}
use Rattle.ice_defs.proofs.Products.{product_high_of, product_low_of}
use Rattle.ice_check_charge.proofs.amounts.owed.Goals as goal

-- the factors as they are read, and bounds of their product
module _ (worth read : ℤ) (den : ℕ) (is : IsWorth worth) (few : den ≤ 1000) (reads : read ≡ pos den) where
  product : to_z w128 (of_z w128 worth) *ℤ to_z w128 (of_z w128 read) ≡ worth *ℤ pos den
  product =
      let one : to_z w128 (of_z w128 worth) ≡ worth = omega (arith, ints, is.low, is.high) in
      let other : to_z w128 (of_z w128 read) ≡ pos den = omega (arith, ints, reads, few) in
      ap (λ z. z *ℤ to_z w128 (of_z w128 read)) one ∙ ap (λ z. worth *ℤ z) other

  most : (worth *ℤ pos den) ≤ℤ pos (200 * 2 ^ 94 * 1000)
  most = product_high_of worth (pos den) 1000 (200 * 2 ^ 94) (omega (arith, ints)) (omega (arith, ints, few)) is.high

  least : neg_ℤ (pos (200 * 2 ^ 94 * 1000)) ≤ℤ (worth *ℤ pos den)
  least = product_low_of worth (pos den) 1000 (200 * 2 ^ 94) (omega (arith, ints)) (omega (arith, ints, few)) is.low

  made : to_z w128 (of_z w128 (to_z w128 (of_z w128 worth) *ℤ to_z w128 (of_z w128 read))) ≡ worth *ℤ pos den
  made = ap (λ z. to_z w128 (of_z w128 z)) product ∙ omega (arith, ints, least, most)

pub overflow_mul-result : goal.overflow_mul-result
overflow_mul-result c =
    let is = product c.args.worth c.from.result c.args.discount.now.den c.requires.worth c.requires.den c.from.ensures in
    let low = least c.args.worth c.from.result c.args.discount.now.den c.requires.worth c.requires.den c.from.ensures in
    let high = most c.args.worth c.from.result c.args.discount.now.den c.requires.worth c.requires.den c.from.ensures in
    omega (arith, ints, is, low, high)

pub overflow_sub-result : goal.overflow_sub-result
overflow_sub-result c =
    let is = made c.args.worth c.from.result c.args.discount.now.den c.requires.worth c.requires.den c.from.ensures in
    let low = least c.args.worth c.from.result c.args.discount.now.den c.requires.worth c.requires.den c.from.ensures in
    let high = most c.args.worth c.from.result c.args.discount.now.den c.requires.worth c.requires.den c.from.ensures in
    omega (arith, ints, is, low, high, c.from-2.ensures)
