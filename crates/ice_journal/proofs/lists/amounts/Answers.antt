use Rattle.std.proofs.Common.{◌≤◌, sym, ◌∙◌, decimal, arith}
use Rattle.ice_line.proofs.Digits.{decimal_same}
use Rattle.ice_journal.proofs.Listed.{front_of_all, no_element}
use Rattle.ice_journal.proofs.lists.amounts.Goals as goal

pub returns-in_err-natural : goal.returns-in_err-natural
returns-in_err-natural c = rw c.from_residual.ensures (λ own lawful e.
    let whole = sym c.loop-field.invariant.0 ∙ e in
    let found = front_of_all (λ amount. amount ≤ 1000000) decimal (λ x y p q same. decimal_same x y (omega (arith, p)) (omega (arith, q)) same) c.loop-field.own.items own c.loop-field.fields c.loop-field.invariant.1 lawful.1 whole in
    no_element (λ amount. amount ≤ 1000000) decimal found.0 c.in-Some.field.now c.next.new.self found.2 (sym c.in-Some.ensures ∙ found.3) (λ n p same. c.in_err-natural.ensures n (omega arith, p) same))
