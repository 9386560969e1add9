use Rattle.std.proofs.Common.{◌≡◌, length, [], ap, sym, ◌∙◌, arith}
use Rattle.std.proofs.lemmas.Bool.Decides.{nat_tests}
use Rattle.ice_line.proofs.Digits.{decimal_digits, first_digit, first_zero, only_zero}
use Rattle.ice_line.proofs.Signed.{decimal_some}
use Rattle.ice_line.proofs.numbers.wide_digits.Goals as goal

pub returns-in_err-first : goal.returns-in_err-first
returns-in_err-first c =
    rw c.from_residual.ensures (λ n small e. decimal_some n (omega arith) (sym c.in_err-first.ensures ∙ e))

pub returns-in_err-value : goal.returns-in_err-value
returns-in_err-value c =
    rw c.from_residual-in_err-value.ensures (λ n small e. c.in_err-value.ensures (decimal_digits [] c.in_ok-first.rest.now c.in_ok-first.first n (omega arith) (sym c.in_ok-first.ensures ∙ e)))

pub returns-then-value-gt0 : goal.returns-then-value-gt0
returns-then-value-gt0 c =
    let whole = first_digit c.args.field.now c.in_ok-first.rest.now c.in_ok-first.first c.in_ok-value.value c.in_ok-first.ensures c.in_ok-value.ensures.0 c.in_ok-value.ensures.1 in
    rw (← whole, ← c.from.ensures) c.more_wide_digits.ensures

pub returns-then-is_empty : goal.returns-then-is_empty
returns-then-is_empty c =
    let none : length c.in_ok-first.rest.now ≡ 0 = grind (arith, nat_tests) in (
      omega arith,
      only_zero c.args.field.now c.in_ok-first.rest.now c.in_ok-first.first c.in_ok-value.value c.in_ok-first.ensures c.in_ok-value.ensures.0 c.if-value-gt0.false none,
      λ y small e. (first_zero c.args.field.now c.in_ok-first.rest.now c.in_ok-first.first c.in_ok-value.value y c.in_ok-first.ensures c.in_ok-value.ensures.0 c.if-value-gt0.false (omega arith) e).0,
    )

pub returns-else-is_empty : goal.returns-else-is_empty
returns-else-is_empty c = λ n small e.
    let some : length c.in_ok-first.rest.now ≡ 0 → ⊥ = grind (arith, nat_tests) in
    some (ap length (first_zero c.args.field.now c.in_ok-first.rest.now c.in_ok-first.first c.in_ok-value.value n c.in_ok-first.ensures c.in_ok-value.ensures.0 c.if-value-gt0.false (omega arith) e).1)
