use Rattle.std.proofs.Common.{◌≡◌, ◌<◌, ◌^◌, ◌≤ℤ◌, to_z, of_z, arith, rules}
use Rattle.std.specs.Int.{w64, w128}
use lib.Signed.{mag}
use Rattle.std.proofs.lemmas.Int.{ints}
use Rattle.ice_line.proofs.Signed.{same_64, mag_between, abs_mag}
use Rattle.ice_line.proofs.numbers.integer.Goals as goal

pub returns-then-value-from-2 : goal.returns-then-value-from-2
returns-then-value-from-2 c =
    let wide : to_z w128 (of_z w128 c.in_ok-value.value) ≡ c.in_ok-value.value = search rules in
    let least : to_z w128 (of_z w128 c.from.result) ≡ c.args.least = search rules in
    let most : to_z w128 (of_z w128 c.from-then-value-from.result) ≡ c.args.most = search rules in
    let low : c.args.least ≤ℤ c.in_ok-value.value = grind (arith, ints, rw (least, wide) at c.if-value-from.true) in
    let high : c.in_ok-value.value ≤ℤ c.args.most = grind (arith, ints, rw (most, wide) at c.if-value-from-2.true) in
    let narrow : to_z w64 (of_z w64 c.in_ok-value.value) ≡ c.in_ok-value.value = same_64 c.in_ok-value.value (mag_between c.args.least c.args.most c.in_ok-value.value c.ranges.least.sfits c.ranges.most.sfits low high) in
    rw (wide, narrow) (
      (low, high),
      c.in_ok-value.ensures.1,
      λ y within e.
          let small : mag y < 2 ^ 63 = mag_between c.args.least c.args.most y c.ranges.least.sfits c.ranges.most.sfits within.0 within.1 in
          c.in_ok-value.ensures.2 y (omega (arith, small, abs_mag y)) e,
    )
