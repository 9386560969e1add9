use Rattle.std.proofs.Common.{ℤ, ◌+ℤ◌, ◌-ℤ◌, refl, subst, arith, rules}
use mir.Syntax.{w128}
use mir.Val.{SFits}
use Rattle.std.proofs.lemmas.Int.{to_z-of_z}
use Rattle.ice_defs.specs.Set.{weight_of, IsSmall}
use Rattle.ice_best.specs.Choice.{IsGainSmall}
use Rattle.ice_best.proofs.Following.{weigh_closed, weigh_open, own_small, gain_fits_signed, difference_fits, difference, IsSmall-gain}
use Rattle.ice_best.proofs.rise.weigh.Goals as goal

pub returns-then-not-table-node : goal.returns-then-not-table-node
returns-then-not-table-node c =
    weigh_closed c.args.tree.now c.args.weights.now c.args.fixing.now c.args.table.now c.args.node c.args.before c.requires.few c.requires.node c.requires.before c.if-not-table-node.true

pub overflow_add-table : goal.overflow_add-table
overflow_add-table c =
    let gain = weight_of c.args.table.now.gain c.args.node in
    let weight = c.get.result in
    let gain_fits : SFits w128 gain = search rules in
    let weight_fits : SFits w128 weight = search rules in
    let before_fits : SFits w128 c.args.before = search rules in
    let more_fits = difference_fits _ (difference weight c.args.before (IsSmall-gain weight c.get.ensures.small) (IsSmall-gain c.args.before c.requires.small)) in
    let small = subst (λ (z : ℤ). IsSmall z) c.get.ensures.value c.get.ensures.small in
    let sum : IsGainSmall (gain +ℤ (weight -ℤ c.args.before)) =
    rw c.get.ensures.value (own_small c.args.tree.now c.args.weights.now c.args.fixing.now c.args.table.now c.args.node c.args.before c.requires.few c.requires.node c.requires.before
    c.if-not-table-node.false small) in
    rw (to_z-of_z w128 gain gain_fits, to_z-of_z w128 weight weight_fits, to_z-of_z w128 c.args.before before_fits, to_z-of_z w128 (weight -ℤ c.args.before) more_fits)
    (gain_fits_signed _ sum)

pub returns : goal.returns
returns c =
    let gain = weight_of c.args.table.now.gain c.args.node in
    let weight = c.get.result in
    let gain_fits : SFits w128 gain = search rules in
    let weight_fits : SFits w128 weight = search rules in
    let before_fits : SFits w128 c.args.before = search rules in
    let more_fits = difference_fits _ (difference weight c.args.before (IsSmall-gain weight c.get.ensures.small) (IsSmall-gain c.args.before c.requires.small)) in
    let small = subst (λ (z : ℤ). IsSmall z) c.get.ensures.value c.get.ensures.small in
    let sum : IsGainSmall (gain +ℤ (weight -ℤ c.args.before)) =
    rw c.get.ensures.value (own_small c.args.tree.now c.args.weights.now c.args.fixing.now c.args.table.now c.args.node c.args.before c.requires.few c.requires.node c.requires.before
    c.if-not-table-node.false small) in
    let sum_fits = gain_fits_signed _ sum in
    rw (
      to_z-of_z w128 gain gain_fits,
      to_z-of_z w128 weight weight_fits,
      to_z-of_z w128 c.args.before before_fits,
      to_z-of_z w128 (weight -ℤ c.args.before) more_fits,
      to_z-of_z w128 (gain +ℤ (weight -ℤ c.args.before)) sum_fits,
      c.get.ensures.value,
    )
    (weigh_open c.args.tree.now c.args.weights.now c.args.fixing.now c.args.table.now c.args.node c.args.before c.requires.few c.requires.node c.requires.before
    c.if-not-table-node.false small _ refl (omega arith))
