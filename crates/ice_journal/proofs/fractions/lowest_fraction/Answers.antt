use Rattle.std.proofs.Common.{◌≡◌, decimal, unsigned_abs, to_z, of_z, sym, ◌∙◌, rules}
use Rattle.std.specs.Int.{w64, IsGcd}
use Rattle.std.proofs.lemmas.Bool.{false≢true}
use Rattle.std.specs.Fmt.{signed_decimal}
use Rattle.ice_journal.proofs.Slashes.{has_slash, cut_fraction}
use Rattle.ice_journal.proofs.fractions.lowest_fraction.Goals as goal

pub returns-in_err-left : goal.returns-in_err-left
returns-in_err-left c =
    rw c.from_residual.ensures (λ f h e. c.in_err-left.ensures (rw e (has_slash (signed_decimal f.num) (decimal f.den))))

pub returns-in_err-num : goal.returns-in_err-num
returns-in_err-num c = rw c.from_residual-in_err-num.ensures (λ f h e.
    let cut = cut_fraction c.args.field.now c.in_ok-left.left.now c.in_ok-left.right.now f c.in_ok-left.ensures.0 c.in_ok-left.ensures.1 h e in
    c.in_err-num.ensures f.num h.num cut.0)

pub returns-in_err-den : goal.returns-in_err-den
returns-in_err-den c = rw c.from_residual-in_err-den.ensures (λ f h e.
    let cut = cut_fraction c.args.field.now c.in_ok-left.left.now c.in_ok-left.right.now f c.in_ok-left.ensures.0 c.in_ok-left.ensures.1 h e in
    c.in_err-den.ensures f.den h.den cut.1)

pub returns-then-are_coprime : goal.returns-then-are_coprime
returns-then-are_coprime c =
    let plain : to_z w64 (of_z w64 c.in_ok-num.num) ≡ c.in_ok-num.num = search rules in
    let lowest : IsGcd (unsigned_abs c.in_ok-num.num) c.in_ok-den.den 1 = rw (c.unsigned_abs.ensures.value, plain) at (c.are_coprime.ensures.0 c.if-are_coprime.true) in
    rw plain (record { num = c.in_ok-num.ensures.0; den = c.in_ok-den.ensures.0; lowest = lowest }, rw (c.in_ok-num.ensures.1, c.in_ok-den.ensures.1) at c.in_ok-left.ensures.0)

pub returns-else-are_coprime : goal.returns-else-are_coprime
returns-else-are_coprime c = λ f h e.
    let cut = cut_fraction c.args.field.now c.in_ok-left.left.now c.in_ok-left.right.now f c.in_ok-left.ensures.0 c.in_ok-left.ensures.1 h e in
    let num : f.num ≡ c.in_ok-num.num = c.in_ok-num.ensures.2 f.num h.num cut.0 in
    let den : f.den ≡ c.in_ok-den.den = c.in_ok-den.ensures.2 f.den h.den cut.1 in
    let plain : to_z w64 (of_z w64 c.in_ok-num.num) ≡ c.in_ok-num.num = search rules in
    let lowest : IsGcd (unsigned_abs c.in_ok-num.num) c.in_ok-den.den 1 = rw (num, den) at h.lowest in
    let coprime : IsGcd c.unsigned_abs.result c.in_ok-den.den 1 = rw (c.unsigned_abs.ensures.value, plain) lowest in
    false≢true (sym c.if-are_coprime.false ∙ c.are_coprime.ensures.1 coprime)
