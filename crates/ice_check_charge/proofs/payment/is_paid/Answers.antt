use Rattle.std.proofs.Common.{◌≡◌, ℤ, pos, ◌-ℤ◌, ◌*ℤ◌, sym, ◌∙◌, rules, to_z, of_z}
use mir.Syntax.{w128}
use Rattle.std.proofs.lemmas.Bool.{false≢true}
use Rattle.ice_journal.specs.Lines.{fraction_of}
use Rattle.ice_threshold.specs.CutOff.{cut_num}
use Rattle.ice_check_charge.proofs.Parts.{amounts_pass, not_discount, not_owed}
use Rattle.ice_check_charge.proofs.payment.is_paid.Goals as goal

pub returns-then-not-equals-clause-no : goal.returns-then-not-equals-clause-no
returns-then-not-equals-clause-no c = λ _.
    let cut = c.args.cut.now in
    let left : ℤ = to_z w128 (of_z w128 c.cut_off.result) in
    let left_is : left ≡ cut_num cut.num cut.den c.args.vickrey = search rules in
    not_discount (fraction_of cut) c.args.vickrey c.args.worth (fraction_of c.args.discount.now) (fraction_of c.args.payment.now) c.requires.proper left left_is
    (λ is. false≢true (sym c.if-not-equals.true ∙ c.equals.ensures.1 is))

pub returns-clause-yes : goal.returns-clause-yes
returns-clause-yes c = λ yes.
    let cut = c.args.cut.now in
    let discount = c.args.discount.now in
    let left : ℤ = to_z w128 (of_z w128 c.cut_off.result) in
    let left_is : left ≡ cut_num cut.num cut.den c.args.vickrey = search rules in
    let paid : ℤ = to_z w128 (of_z w128 c.owed-paid.result) in
    let paid_is : paid ≡ c.args.worth *ℤ pos discount.den -ℤ discount.num = search rules in
    amounts_pass (fraction_of cut) c.args.vickrey c.args.worth (fraction_of discount) (fraction_of c.args.payment.now) c.requires.proper left left_is paid paid_is
    (c.equals.ensures.0 c.if-not-equals.false) (c.equals-2.ensures.0 yes)

pub returns-clause-no : goal.returns-clause-no
returns-clause-no c = λ no.
    let cut = c.args.cut.now in
    let discount = c.args.discount.now in
    let paid : ℤ = to_z w128 (of_z w128 c.owed-paid.result) in
    let paid_is : paid ≡ c.args.worth *ℤ pos discount.den -ℤ discount.num = search rules in
    not_owed (fraction_of cut) c.args.vickrey c.args.worth (fraction_of discount) (fraction_of c.args.payment.now) c.requires.proper paid paid_is
    (λ is. false≢true (sym no ∙ c.equals-2.ensures.1 is))
