use Rattle.std.proofs.Common.{◌≡◌, ◌+◌, ◌*◌, sym, ◌∙◌, arith, rules}
use Rattle.ice_line.proofs.Digits.{bad_digit, next_digit, too_large, all_read, decimal_same}
use Rattle.ice_line.proofs.numbers.more_wide_digits.Goals as goal

pub returns-in_err-number : goal.returns-in_err-number
returns-in_err-number c =
    rw c.from_residual.ensures (λ n small e. bad_digit _ c.args.rest.now c.loop-byte.value c.loop-byte.byte-index n c.loop-byte.invariant.0 c.loop-byte-test.true c.in_err-number.ensures (omega arith) e)

pub returns-in_err-checked_mul : goal.returns-in_err-checked_mul
returns-in_err-checked_mul c =
    rw c.from_residual-in_err-checked_mul.ensures (λ n small e.
    let large = too_large _ c.args.rest.now c.loop-byte.value c.loop-byte.byte-index c.in_ok-number.number n c.loop-byte.invariant.0 c.loop-byte-test.true c.in_ok-number.ensures.0 c.in_ok-number.ensures.1 c.loop-byte.invariant.1 (omega arith) (omega arith) e in
    c.in_err-checked_mul.ensures (omega (arith, large)))

pub returns-in_err-value : goal.returns-in_err-value
returns-in_err-value c =
    rw c.from_residual-in_err-value.ensures (λ n small e.
    let large = too_large _ c.args.rest.now c.loop-byte.value c.loop-byte.byte-index c.in_ok-number.number n c.loop-byte.invariant.0 c.loop-byte-test.true c.in_ok-number.ensures.0 c.in_ok-number.ensures.1 c.loop-byte.invariant.1 (omega arith) (omega arith) e in
    c.in_err-value.ensures (omega (arith, large, c.in_ok-checked_mul.ensures)))

pub loop-byte-preserved : goal.loop-byte-preserved
loop-byte-preserved c =
    let more = next_digit _ c.args.rest.now c.loop-byte.value c.loop-byte.byte-index c.in_ok-number.number c.loop-byte.invariant.0 c.loop-byte-test.true c.in_ok-number.ensures.0 c.in_ok-number.ensures.1 c.loop-byte.invariant.1 (omega arith) in
    let value : c.in_ok-value.value ≡ c.loop-byte.value * 10 + c.in_ok-number.number = omega (arith, c.in_ok-value.ensures, c.in_ok-checked_mul.ensures) in
    (rw value more, omega (arith, value, c.loop-byte.invariant.1), omega (arith, c.in_ok-value.ensures))

pub returns : goal.returns
returns c =
    let whole = all_read _ c.args.rest.now c.loop-byte.value c.loop-byte.byte-index c.loop-byte.invariant.0 (omega arith) in
    (search rules, whole, λ y small e. decimal_same y c.loop-byte.value (omega arith) (omega arith) (sym e ∙ whole))
