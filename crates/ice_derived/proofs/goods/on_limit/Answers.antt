use Rattle.std.proofs.Common.{◌≡◌, ◌*ℤ◌, ◌^◌, arith, rules, to_z, of_z}
use Rattle.std.proofs.lemmas.Int.{ints, to_z-of_z}
use mir.Syntax.{w128}
use mir.Val.{SFits}
use Rattle.ice_bound.proofs.Totals.{total_fits}
use Rattle.ice_derived.proofs.Products.{times_within-low, times_within-high}
use Rattle.ice_derived.proofs.goods.on_limit.Goals as goal

pub returns : goal.returns
returns c =
    let rise = c.requires.rise in
    let limit = c.requires.limit in
    let same_rise : to_z w128 (of_z w128 c.args.rise) ≡ c.args.rise = search rules in
    let same_limit : to_z w128 (of_z w128 c.from.result) ≡ c.args.limit = search rules in
    let low = times_within-low c.args.rise c.args.limit (2 ^ 63) (2 ^ 40) rise.low rise.high limit.low limit.high in
    let high = times_within-high c.args.rise c.args.limit (2 ^ 63) (2 ^ 40) rise.low rise.high limit.low limit.high in
    let fits : SFits w128 (c.args.rise *ℤ c.args.limit) = total_fits _ (omega (arith, ints, low)) (omega (arith, ints, high)) in
    rw (same_rise, same_limit, to_z-of_z w128 (c.args.rise *ℤ c.args.limit) fits) (record { value = search rules; low = low; high = high })
