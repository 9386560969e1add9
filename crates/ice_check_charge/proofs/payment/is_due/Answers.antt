use Rattle.std.proofs.Common.{◌≡◌, ℤ, ◌-ℤ◌, rules, sym, subst}
use Rattle.std.proofs.lemmas.Int.{to_z-of_z}
use mir.Syntax.{w64, w128}
use mir.Val.{SFits, to_z, of_z}
use Rattle.ice_journal.specs.Lines.{fraction_of}
use Rattle.ice_check_charge.specs.Tests.{IsPaidAt}
use Rattle.ice_check_charge.specs.Stated.{payment_of}
use Rattle.ice_check_charge.proofs.Parts.{line_of_paid, paid_of_line}
use Rattle.ice_check_charge.proofs.payment.is_due.Goals as goal

pub returns-clause-yes : goal.returns-clause-yes
returns-clause-yes c = λ yes.
    let due = c.args.due.now in
    let cut = fraction_of c.args.cut.now in
    let p = payment_of c.args.stated.now in
    let same : p.vickrey ≡ due.total -ℤ due.without = search rules in
    let fits : SFits w64 p.vickrey = search rules in
    let worth_fits : SFits w128 due.worth = search rules in
    let paid : IsPaidAt cut p.vickrey due.worth p.discount p.payment =
    subst (λ (z : ℤ). IsPaidAt cut p.vickrey z p.discount p.payment) (to_z-of_z w128 due.worth worth_fits)
    (subst (λ (z : ℤ). IsPaidAt cut z (to_z w128 (of_z w128 due.worth)) p.discount p.payment) (to_z-of_z w64 p.vickrey fits) (c.is_paid.ensures.yes yes)) in
    line_of_paid (due.total -ℤ due.without) due.worth cut p same paid

pub returns-clause-no : goal.returns-clause-no
returns-clause-no c = λ no line.
    let due = c.args.due.now in
    let cut = fraction_of c.args.cut.now in
    let p = payment_of c.args.stated.now in
    let fits : SFits w64 p.vickrey = search rules in
    let worth_fits : SFits w128 due.worth = search rules in
    c.is_paid.ensures.no no
    (subst (λ (z : ℤ). IsPaidAt cut z (to_z w128 (of_z w128 due.worth)) p.discount p.payment) (sym (to_z-of_z w64 p.vickrey fits))
    (subst (λ (z : ℤ). IsPaidAt cut p.vickrey z p.discount p.payment) (sym (to_z-of_z w128 due.worth worth_fits)) (paid_of_line (due.total -ℤ due.without) due.worth cut p line)))
