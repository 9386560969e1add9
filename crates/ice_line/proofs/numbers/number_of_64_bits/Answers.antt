use Rattle.std.proofs.Common.{◌≡◌, pos, neg_ℤ, ◌-ℤ◌, unsigned_abs, to_z, of_z, decimal, refl, ap, ◌∙◌, arith, rules}
use Rattle.std.specs.Int.{w128}
use Rattle.ice_line.proofs.Signed.{minus_none, minus_some, minus_zero, minus_is, abs_neg, same_wide}
use Rattle.ice_line.proofs.numbers.number_of_64_bits.Goals as goal

pub returns-in_err-size : goal.returns-in_err-size
returns-in_err-size c =
    rw c.from_residual.ensures (λ z small e.
    let found = minus_none c.args.field.now c.in-Some.rest.now c.in-Some.ensures z (omega arith) e in
    let size = ap unsigned_abs found.1 in
    c.in_err-size.ensures _ (omega (arith, size)) found.2)

pub returns-then-size-eq0 : goal.returns-then-size-eq0
returns-then-size-eq0 c = λ z small e.
    minus_zero c.args.field.now c.in-Some.rest.now z c.in-Some.ensures (c.in_ok-size.ensures.1 ∙ ap decimal c.if-size-eq0.true) (omega arith) e

pub returns-else-size-eq0 : goal.returns-else-size-eq0
returns-else-size-eq0 c =
    let from : to_z w128 (of_z w128 c.from.result) ≡ pos c.in_ok-size.size = search rules in
    let n = c.in_ok-size.size in
    let value : to_z w128 (of_z w128 (pos 0 -ℤ pos n)) ≡ neg_ℤ (pos n) = rw (minus_is n) (same_wide (neg_ℤ (pos n)) (omega (arith, abs_neg n))) in
    let found = minus_some c.args.field.now c.in-Some.rest.now n (neg_ℤ (pos n)) refl (omega arith) (omega arith) c.in-Some.ensures c.in_ok-size.ensures.1 in
    rw (from, value) (omega (arith, abs_neg n), found.0, λ y small e. found.1 y (omega arith) e)
