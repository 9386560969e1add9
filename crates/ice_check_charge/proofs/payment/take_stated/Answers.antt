use Rattle.std.proofs.Common.{sym, ◌∙◌, ◌-ℤ◌, subst}
use Rattle.ice_defs.specs.Fraction.{Fraction}
use Rattle.ice_journal_laws.specs.Tests.{IsPaymentLine}
use Rattle.ice_check_charge.specs.Stated.{payment_of}
use Rattle.ice_check_charge.proofs.Taken.{misnamed, fails, passes}
use Rattle.ice_check_charge.proofs.payment.take_stated.Goals as goal

pub returns-then-not-is_named : goal.returns-then-not-is_named
returns-then-not-is_named c = misnamed c.args.charge.now.cut c.args.due.now (payment_of c.args.stated.now) (sym c.is_named.ensures ∙ c.if-not-is_named.true)

pub returns-then-is_due : goal.returns-then-is_due
returns-then-is_due c =
    let due = c.args.due.now in
    passes c.args.charge.now.cut due (payment_of c.args.stated.now) (sym c.is_named.ensures ∙ c.if-not-is_named.false)
    (subst (λ (f : Fraction). IsPaymentLine (due.total -ℤ due.without) due.worth f (payment_of c.args.stated.now)) c.cut.ensures.value (c.is_due.ensures.yes c.if-is_due.true))

pub returns-else-is_due : goal.returns-else-is_due
returns-else-is_due c =
    let due = c.args.due.now in
    fails c.args.charge.now.cut due (payment_of c.args.stated.now) (sym c.is_named.ensures ∙ c.if-not-is_named.false)
    (subst (λ (f : Fraction). ¬ IsPaymentLine (due.total -ℤ due.without) due.worth f (payment_of c.args.stated.now)) c.cut.ensures.value (c.is_due.ensures.no c.if-is_due.false))
