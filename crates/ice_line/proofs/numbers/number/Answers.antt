use Rattle.std.proofs.Common.{◌≡◌, ◌<◌, ◌^◌, suc, ℤ, pos, negsuc, neg_ℤ, ◌-ℤ◌, unsigned_abs, to_z, of_z, FitsSigned, decimal, refl, ap, ◌∙◌, arith, rules}
use Rattle.std.specs.Int.{w128}
use lib.Signed.{mag}
use Rattle.ice_line.proofs.Signed.{minus_none, minus_some, minus_zero, minus_is, abs_neg, same_wide, abs_mag, mag_abs}
use Rattle.ice_line.proofs.numbers.number.Goals as goal

small_abs : (z : ℤ) → FitsSigned w128 z → unsigned_abs z < 2 ^ 128
small_abs z fits = omega (arith, fits.sfits, abs_mag z)

pub returns-in_err-size : goal.returns-in_err-size
returns-in_err-size c =
    rw c.from_residual.ensures (λ z fits e.
    let small = small_abs z fits in
    let found = minus_none c.args.field.now c.in-Some.rest.now c.in-Some.ensures z (omega (arith, small)) e in
    let size = ap unsigned_abs found.1 in
    c.in_err-size.ensures _ (omega (arith, size, small)) found.2)

pub returns-then-size-eq0 : goal.returns-then-size-eq0
returns-then-size-eq0 c = λ z fits e.
    minus_zero c.args.field.now c.in-Some.rest.now z c.in-Some.ensures (c.in_ok-size.ensures.1 ∙ ap decimal c.if-size-eq0.true) (omega (arith, small_abs z fits)) e

pub returns-then-size : goal.returns-then-size
returns-then-size c =
    let digits = c.in_ok-size.ensures.1 ∙ ap decimal c.if-size.true in
    let found = minus_some c.args.field.now c.in-Some.rest.now 170141183460469231731687303715884105728 (negsuc 170141183460469231731687303715884105727) refl (omega arith) (omega arith) c.in-Some.ensures digits in
    (record { sfits = omega arith }, found.0, λ y fits e. found.1 y (omega (arith, small_abs y fits)) e)

pub returns-then-size-2 : goal.returns-then-size-2
returns-then-size-2 c =
    let n = c.in_ok-size.size in
    let wide : to_z w128 n ≡ pos n = search rules in
    let value : to_z w128 (of_z w128 (pos 0 -ℤ pos n)) ≡ neg_ℤ (pos n) = rw (minus_is n) (same_wide (neg_ℤ (pos n)) (omega (arith, abs_neg n))) in
    let found = minus_some c.args.field.now c.in-Some.rest.now n (neg_ℤ (pos n)) refl (omega arith) (omega arith) c.in-Some.ensures c.in_ok-size.ensures.1 in
    rw (wide, value) (record { sfits = omega (arith, abs_neg n, mag_abs (neg_ℤ (pos n))) }, found.0, λ y fits e. found.1 y (omega (arith, small_abs y fits)) e)

pub returns-else-size-2 : goal.returns-else-size-2
returns-else-size-2 c = λ z fits e.
    let small = small_abs z fits in
    let found = minus_none c.args.field.now c.in-Some.rest.now c.in-Some.ensures z (omega (arith, small)) e in
    let size : unsigned_abs z ≡ suc found.0 = ap unsigned_abs found.1 in
    let mags : mag z ≡ found.0 = ap mag found.1 in
    let same : suc found.0 ≡ c.in_ok-size.size = c.in_ok-size.ensures.2 (suc found.0) (omega (arith, size, small)) found.2 in
    c.if-size.false (omega (arith, same, mags, fits.sfits, c.if-size-2.false))
