use Rattle.std.proofs.Common.{◌≡◌, ◌∙◌, ◌/◌, ◌≤◌, pos, ◌*ℤ◌, ap, arith, to_z, of_z}
use mir.Syntax.{w128}
use Rattle.std.proofs.lemmas.Int.{ints}
use Rattle.std.proofs.Math.Nat.{div-le_self}
use Rattle.ice_defs.specs.PricingRun.{num_over}
use Rattle.ice_fair.proofs.Keeping.{num_over-sized}
use Rattle.ice_fair.proofs.last.num_of.Goals as goal

pub overflow_mul-result : goal.overflow_mul-result
overflow_mul-result c =
    let num : to_z w128 (of_z w128 c.num.result) ≡ c.args.payment.now.num = omega (arith, ints, c.num.ensures.value, c.requires.short.low, c.requires.short.high) in
    let small : c.args.cut / c.args.payment.now.den ≤ c.args.cut = div-le_self c.args.cut c.args.payment.now.den in
    let quotient : c.from.result / c.den.result ≡ c.args.cut / c.args.payment.now.den = ap (λ n. n / c.den.result) c.from.ensures ∙ ap (λ n. c.args.cut / n) c.den.ensures.value in
    let read : to_z w128 (c.args.cut / c.args.payment.now.den) ≡ pos (c.args.cut / c.args.payment.now.den) = omega (arith, ints, small, c.requires.few) in
    let both : to_z w128 (of_z w128 c.num.result) *ℤ to_z w128 (c.from.result / c.den.result) ≡ num_over c.args.cut c.args.payment.now =
    ap (λ z. z *ℤ to_z w128 (c.from.result / c.den.result)) num ∙ ap (λ z. c.args.payment.now.num *ℤ z) (ap (to_z w128) quotient ∙ read) in
    let is = num_over-sized c.args.payment.now c.args.cut c.requires.short c.requires.few in
    let a = is.low in let b = is.high in
    omega (arith, ints, both, a, b)

pub returns : goal.returns
returns c =
    let num : to_z w128 (of_z w128 c.num.result) ≡ c.args.payment.now.num = omega (arith, ints, c.num.ensures.value, c.requires.short.low, c.requires.short.high) in
    let small : c.args.cut / c.args.payment.now.den ≤ c.args.cut = div-le_self c.args.cut c.args.payment.now.den in
    let quotient : c.from.result / c.den.result ≡ c.args.cut / c.args.payment.now.den = ap (λ n. n / c.den.result) c.from.ensures ∙ ap (λ n. c.args.cut / n) c.den.ensures.value in
    let read : to_z w128 (c.args.cut / c.args.payment.now.den) ≡ pos (c.args.cut / c.args.payment.now.den) = omega (arith, ints, small, c.requires.few) in
    let both : to_z w128 (of_z w128 c.num.result) *ℤ to_z w128 (c.from.result / c.den.result) ≡ num_over c.args.cut c.args.payment.now =
    ap (λ z. z *ℤ to_z w128 (c.from.result / c.den.result)) num ∙ ap (λ z. c.args.payment.now.num *ℤ z) (ap (to_z w128) quotient ∙ read) in
    let is = num_over-sized c.args.payment.now c.args.cut c.requires.short c.requires.few in
    let a = is.low in let b = is.high in
    ap (λ z. to_z w128 (of_z w128 z)) both ∙ omega (arith, ints, a, b)
