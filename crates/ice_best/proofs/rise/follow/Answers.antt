use Rattle.std.proofs.Common.{length, ℤ, ◌≡◌, true, eqb, ◌+ℤ◌, ◌-ℤ◌, ◌∙◌, ap, refl, subst, sym, arith, rules}
use mir.Syntax.{w128}
use mir.Val.{SFits}
use Rattle.std.proofs.lemmas.Bool.{eqb-true}
use Rattle.std.proofs.lemmas.Int.{to_z-of_z}
use Rattle.ice_defs.specs.Set.{weight_of, IsSmall}
use Rattle.ice_defs.specs.Tree.{least_of}
use Rattle.ice_best.proofs.Following.{follow_closed, follow_raised, follow_filled, raised_small, gain_fits_signed, difference_fits, difference, IsSmall-gain}
use Rattle.ice_best.proofs.rise.follow.Goals as goal

pub returns-then-not-table-parent : goal.returns-then-not-table-parent
returns-then-not-table-parent c =
    rw (sym c.parent-parent.ensures.value)
    (follow_closed c.args.tree.now c.args.weights.now c.args.fixing.now c.args.table.now c.args.node c.parent-parent.result c.args.more c.requires.tree c.requires.few c.requires.node c.requires.inner
    c.parent-parent.ensures.value c.requires.followed c.if-not-table-parent.true)

pub fill-requires-clause-node : goal.fill-requires-clause-node
fill-requires-clause-node c =
    let first = c.requires.tree.parent_first c.args.node c.requires.inner c.requires.node in
    omega (arith, first, c.parent-parent.ensures.value, c.requires.node)

pub fill-requires-clause-later : goal.fill-requires-clause-later
fill-requires-clause-later c = λ n h l. c.requires.followed.others n l (λ _. omega (arith, h, c.parent-parent.ensures.value))

pub overflow_add-table : goal.overflow_add-table
overflow_add-table c =
    let tree = c.args.tree.now in
    let weights = c.args.weights.now in
    let table = c.args.table.now in
    let above = weight_of table.gain c.parent-parent.result in
    let gain = weight_of table.gain c.args.node in
    let above_fits : SFits w128 above = search rules in
    let gain_fits : SFits w128 gain = search rules in
    let weight_fits : SFits w128 c.get.result = search rules in
    let more_fits : SFits w128 c.args.more = search rules in
    let rise_fits : SFits w128 c.in-Some.rise = search rules in
    let first = c.requires.tree.parent_first c.args.node c.requires.inner c.requires.node in
    let choice_fits = difference_fits _ (difference above c.get.result (c.requires.followed.small c.parent-parent.result (omega (arith, first, c.parent-parent.ensures.value))) (IsSmall-gain c.get.result c.get.ensures.small)) in
    let may = rw (
      to_z-of_z w128 above above_fits,
      to_z-of_z w128 gain gain_fits,
      to_z-of_z w128 c.get.result weight_fits,
      to_z-of_z w128 c.args.more more_fits,
      to_z-of_z w128 (above -ℤ c.get.result) choice_fits,
      c.interval-least.ensures.most,
      c.kind.ensures,
      c.get.ensures.value,
    ) at c.in-Some.ensures in
    let small = subst (λ (z : ℤ). IsSmall z) c.get.ensures.value c.get.ensures.small in
    let all_is = λ (all : eqb c.interval-least.result.0 (length c.children.result.now) ≡ true).
    ap least_of (sym c.kind.ensures) ∙ sym c.interval-least.ensures.least ∙ eqb-true _ _ all ∙ ap length c.children.ensures.value in
    let sum = raised_small tree weights c.args.fixing.now table c.args.node c.parent-parent.result c.args.more c.requires.tree c.requires.few c.requires.node c.requires.inner c.parent-parent.ensures.value
    c.requires.followed c.if-not-table-parent.false small c.in-Some.rise (eqb c.interval-least.result.0 (length c.children.result.now)) all_is may in
    let sum_fits = gain_fits_signed _ sum in
    rw (to_z-of_z w128 above above_fits, to_z-of_z w128 c.in-Some.rise rise_fits) sum_fits

pub returns-in-Some : goal.returns-in-Some
returns-in-Some c =
    let tree = c.args.tree.now in
    let weights = c.args.weights.now in
    let table = c.args.table.now in
    let above = weight_of table.gain c.parent-parent.result in
    let gain = weight_of table.gain c.args.node in
    let above_fits : SFits w128 above = search rules in
    let gain_fits : SFits w128 gain = search rules in
    let weight_fits : SFits w128 c.get.result = search rules in
    let more_fits : SFits w128 c.args.more = search rules in
    let rise_fits : SFits w128 c.in-Some.rise = search rules in
    let first = c.requires.tree.parent_first c.args.node c.requires.inner c.requires.node in
    let choice_fits = difference_fits _ (difference above c.get.result (c.requires.followed.small c.parent-parent.result (omega (arith, first, c.parent-parent.ensures.value))) (IsSmall-gain c.get.result c.get.ensures.small)) in
    let may = rw (
      to_z-of_z w128 above above_fits,
      to_z-of_z w128 gain gain_fits,
      to_z-of_z w128 c.get.result weight_fits,
      to_z-of_z w128 c.args.more more_fits,
      to_z-of_z w128 (above -ℤ c.get.result) choice_fits,
      c.interval-least.ensures.most,
      c.kind.ensures,
      c.get.ensures.value,
    ) at c.in-Some.ensures in
    let small = subst (λ (z : ℤ). IsSmall z) c.get.ensures.value c.get.ensures.small in
    let all_is = λ (all : eqb c.interval-least.result.0 (length c.children.result.now) ≡ true).
    ap least_of (sym c.kind.ensures) ∙ sym c.interval-least.ensures.least ∙ eqb-true _ _ all ∙ ap length c.children.ensures.value in
    let sum = raised_small tree weights c.args.fixing.now table c.args.node c.parent-parent.result c.args.more c.requires.tree c.requires.few c.requires.node c.requires.inner c.parent-parent.ensures.value
    c.requires.followed c.if-not-table-parent.false small c.in-Some.rise (eqb c.interval-least.result.0 (length c.children.result.now)) all_is may in
    let sum_fits = gain_fits_signed _ sum in
    rw (sym c.parent-parent.ensures.value, to_z-of_z w128 above above_fits, to_z-of_z w128 c.in-Some.rise rise_fits, to_z-of_z w128 (above +ℤ c.in-Some.rise) sum_fits)
    (follow_raised tree weights c.args.fixing.now table c.args.node c.parent-parent.result c.args.more c.requires.tree c.requires.few c.requires.node c.requires.inner c.parent-parent.ensures.value
    c.requires.followed c.if-not-table-parent.false small c.in-Some.rise (eqb c.interval-least.result.0 (length c.children.result.now)) all_is may _ refl (omega (arith, first, c.parent-parent.ensures.value)))

pub overflow_sub-result : goal.overflow_sub-result
overflow_sub-result c =
    let first = c.requires.tree.parent_first c.args.node c.requires.inner c.requires.node in
    let followed = follow_filled c.args.tree.now c.args.weights.now c.args.fixing.now c.args.table.now c.args.node c.parent-parent.result c.args.more c.requires.tree c.requires.few c.requires.node c.requires.inner
    c.parent-parent.ensures.value c.requires.followed c.if-not-table-parent.false c.fill.new.table c.fill.ensures.changes c.fill.ensures.entries in
    let above_fits : SFits w128 (weight_of c.args.table.now.gain c.parent-parent.result) = search rules in
    let new_fits : SFits w128 (weight_of c.fill.new.table.gain c.parent-parent.result) = search rules in
    rw (to_z-of_z w128 _ above_fits, to_z-of_z w128 _ new_fits) (difference_fits _ followed.difference)

pub returns-in-None : goal.returns-in-None
returns-in-None c =
    let followed = follow_filled c.args.tree.now c.args.weights.now c.args.fixing.now c.args.table.now c.args.node c.parent-parent.result c.args.more c.requires.tree c.requires.few c.requires.node c.requires.inner
    c.parent-parent.ensures.value c.requires.followed c.if-not-table-parent.false c.fill.new.table c.fill.ensures.changes c.fill.ensures.entries in
    let above_fits : SFits w128 (weight_of c.args.table.now.gain c.parent-parent.result) = search rules in
    let new_fits : SFits w128 (weight_of c.fill.new.table.gain c.parent-parent.result) = search rules in
    rw (sym c.parent-parent.ensures.value, to_z-of_z w128 _ above_fits, to_z-of_z w128 _ new_fits, to_z-of_z w128 _ (difference_fits _ followed.difference)) followed
