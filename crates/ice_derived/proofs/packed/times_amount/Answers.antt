use Rattle.std.proofs.Common.{◌≡◌, ◌*ℤ◌, ◌^◌, arith, rules, to_z, of_z}
use Rattle.std.proofs.lemmas.Int.{ints, to_z-of_z}
use mir.Syntax.{w128}
use mir.Val.{SFits}
use Rattle.ice_bound.proofs.Totals.{total_fits}
use Rattle.ice_derived.proofs.Products.{times_within-low, times_within-high}
use Rattle.ice_derived.proofs.packed.times_amount.Goals as goal

pub returns : goal.returns
returns c =
    let times = c.requires.times in
    let amount = c.requires.amount in
    let same_times : to_z w128 (of_z w128 c.args.times) ≡ c.args.times = search rules in
    let same_amount : to_z w128 (of_z w128 c.from.result) ≡ c.args.amount = search rules in
    let low = times_within-low c.args.times c.args.amount (2 ^ 63) (2 ^ 20) times.low times.high amount.low amount.high in
    let high = times_within-high c.args.times c.args.amount (2 ^ 63) (2 ^ 20) times.low times.high amount.low amount.high in
    let fits : SFits w128 (c.args.times *ℤ c.args.amount) = total_fits _ (omega (arith, ints, low)) (omega (arith, ints, high)) in
    rw (same_times, same_amount) (to_z-of_z w128 (c.args.times *ℤ c.args.amount) fits)
