use Rattle.std.proofs.Common.{◌≡◌, ℤ, pos, ◌-ℤ◌, ◌*ℤ◌, sym, ◌∙◌, subst, rules, to_z, of_z}
use mir.Syntax.{w64, w128}
use Rattle.std.proofs.lemmas.Bool.{false≢true}
use Rattle.std.proofs.lemmas.Int.{to_z-of_z}
use Rattle.ice_defs.specs.Sum.{sum_over}
use Rattle.ice_journal.specs.Lines.{fraction_of}
use Rattle.ice_threshold.specs.CutOff.{cut_num}
use Rattle.ice_check_charge.specs.Tests.{vickreys_of, IsReached}
use Rattle.ice_check_charge.proofs.Parts.{parts_pass, not_spent, not_reached, not_rest}
use Rattle.ice_check_charge.proofs.cut.passes.Goals as goal

pub returns-then-not-is_spent-clause-no : goal.returns-then-not-is_spent-clause-no
returns-then-not-is_spent-clause-no c = λ _.
    let cut = c.args.stated.now.cut in
    let num : ℤ = to_z w64 (of_z w64 cut.num) in
    let left : ℤ = to_z w128 (of_z w128 c.sum_cut_off-left.result) in
    let available : ℤ = to_z w128 (of_z w128 c.scaled-available.result) in
    let num_is : num ≡ cut.num = search rules in
    let left_is : left ≡ sum_over (cut_num cut.num cut.den) (vickreys_of c.args.total c.args.withouts.now) = search rules in
    let all_is : available ≡ c.args.total *ℤ pos cut.den = search rules in
    not_spent c.args.withouts.now c.args.total (fraction_of c.args.stated.now.cut) (fraction_of c.args.stated.now.surplus) c.requires.proper num left available num_is left_is all_is
    (c.is_spent.ensures.no c.if-not-is_spent.true)

pub returns-then-not-is_reached-clause-no : goal.returns-then-not-is_reached-clause-no
returns-then-not-is_reached-clause-no c = λ _.
    not_reached c.args.withouts.now c.args.total (fraction_of c.args.stated.now.cut) (fraction_of c.args.stated.now.surplus) c.requires.proper
    (subst (λ (z : ℤ). ¬ IsReached (fraction_of c.args.stated.now.cut) z c.args.withouts.now) (to_z-of_z w64 c.args.total c.ranges.total) (c.is_reached.ensures.no c.if-not-is_reached.true))

pub returns-clause-yes : goal.returns-clause-yes
returns-clause-yes c = λ yes.
    let cut = c.args.stated.now.cut in
    let num : ℤ = to_z w64 (of_z w64 cut.num) in
    let left : ℤ = to_z w128 (of_z w128 c.sum_cut_off-left.result) in
    let available : ℤ = to_z w128 (of_z w128 c.scaled-available.result) in
    let num_is : num ≡ cut.num = search rules in
    let left_is : left ≡ sum_over (cut_num cut.num cut.den) (vickreys_of c.args.total c.args.withouts.now) = search rules in
    let all_is : available ≡ c.args.total *ℤ pos cut.den = search rules in
    let rest : ℤ = to_z w128 (of_z w128 (available -ℤ left)) in
    let rest_is : rest ≡ available -ℤ left = search rules in
    parts_pass c.args.withouts.now c.args.total (fraction_of c.args.stated.now.cut) (fraction_of c.args.stated.now.surplus) c.requires.proper num left available num_is left_is all_is rest rest_is
    (c.is_spent.ensures.yes c.if-not-is_spent.false)
    (subst (λ (z : ℤ). IsReached (fraction_of c.args.stated.now.cut) z c.args.withouts.now) (to_z-of_z w64 c.args.total c.ranges.total) (c.is_reached.ensures.yes c.if-not-is_reached.false))
    (c.equals.ensures.0 yes)

pub returns-clause-no : goal.returns-clause-no
returns-clause-no c = λ no.
    let cut = c.args.stated.now.cut in
    let num : ℤ = to_z w64 (of_z w64 cut.num) in
    let left : ℤ = to_z w128 (of_z w128 c.sum_cut_off-left.result) in
    let available : ℤ = to_z w128 (of_z w128 c.scaled-available.result) in
    let num_is : num ≡ cut.num = search rules in
    let left_is : left ≡ sum_over (cut_num cut.num cut.den) (vickreys_of c.args.total c.args.withouts.now) = search rules in
    let all_is : available ≡ c.args.total *ℤ pos cut.den = search rules in
    let rest : ℤ = to_z w128 (of_z w128 (available -ℤ left)) in
    let rest_is : rest ≡ available -ℤ left = search rules in
    not_rest c.args.withouts.now c.args.total (fraction_of c.args.stated.now.cut) (fraction_of c.args.stated.now.surplus) c.requires.proper num left available num_is left_is all_is rest rest_is
    (λ is. false≢true (sym no ∙ c.equals.ensures.1 is))
