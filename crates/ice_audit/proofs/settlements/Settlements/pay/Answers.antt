use Rattle.std.proofs.Common.{◌≡◌, rules, subst, ◌∙◌, ℤ, pos}
use Rattle.std.proofs.lemmas.Int.{to_z-of_z}
use mir.Syntax.{w64, w128}
use mir.Val.{SFits, to_z, of_z}
use Rattle.ice_defs.specs.Vickrey.{IsEmpty}
use Rattle.ice_journal.specs.Lines.{fraction_of}
use Rattle.ice_check_charge.specs.Tests.{IsPaidAt}
use Rattle.ice_audit.proofs.Paying.{vickrey_undue, payment_wrong, payment_taken}
use Rattle.ice_audit.proofs.settlements.Settlements.pay.Goals as goal

pub returns-then-is_undue : goal.returns-then-is_undue
returns-then-is_undue c = λ name own.
    let kept = c.args.self.now.kept in
    let fits : SFits w64 c.args.vickrey = search rules in
    vickrey_undue c.args.self.now c.requires.kept c.args.cut.now c.args.discount.now c.args.payment.now name c.args.vickrey c.requires.next own
    (subst (λ (z : ℤ). ¬ (IsEmpty kept → z ≡ pos 0)) (to_z-of_z w64 c.args.vickrey fits) (c.is_undue.ensures.yes c.if-is_undue.true))

pub returns-then-not-is_paid : goal.returns-then-not-is_paid
returns-then-not-is_paid c = λ name own.
    let cut = fraction_of c.args.cut.now in
    let discount = fraction_of c.args.discount.now in
    let payment = fraction_of c.args.payment.now in
    let fits : SFits w64 c.args.vickrey = search rules in
    let worth_fits : SFits w128 c.worth-worth.result = search rules in
    payment_wrong c.args.self.now c.requires.kept c.args.cut.now c.args.discount.now c.args.payment.now name c.args.vickrey c.requires.next own
    (subst (λ (z : ℤ). ¬ IsPaidAt cut c.args.vickrey z discount payment) (to_z-of_z w128 c.worth-worth.result worth_fits ∙ c.worth-worth.ensures.value)
    (subst (λ (z : ℤ). ¬ IsPaidAt cut z (to_z w128 (of_z w128 c.worth-worth.result)) discount payment) (to_z-of_z w64 c.args.vickrey fits) (c.is_paid.ensures.no c.if-not-is_paid.true)))

pub returns : goal.returns
returns c = λ name own.
    let kept = c.args.self.now.kept in
    let cut = fraction_of c.args.cut.now in
    let discount = fraction_of c.args.discount.now in
    let payment = fraction_of c.args.payment.now in
    let fits : SFits w64 c.args.vickrey = search rules in
    let worth_fits : SFits w128 c.worth-worth.result = search rules in
    payment_taken c.args.self.now c.requires.kept c.args.cut.now c.args.discount.now c.args.payment.now name c.args.vickrey c.requires.next own c.requires.payment
    (subst (λ (z : ℤ). IsEmpty kept → z ≡ pos 0) (to_z-of_z w64 c.args.vickrey fits) (c.is_undue.ensures.no c.if-is_undue.false))
    (subst (λ (z : ℤ). IsPaidAt cut c.args.vickrey z discount payment) (to_z-of_z w128 c.worth-worth.result worth_fits ∙ c.worth-worth.ensures.value)
    (subst (λ (z : ℤ). IsPaidAt cut z (to_z w128 (of_z w128 c.worth-worth.result)) discount payment) (to_z-of_z w64 c.args.vickrey fits) (c.is_paid.ensures.yes c.if-not-is_paid.false)))
