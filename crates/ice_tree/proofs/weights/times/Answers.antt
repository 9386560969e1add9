use Rattle.std.proofs.Common.{◌≡◌, pos, neg_ℤ, ◌≤ℤ◌, ◌*ℤ◌, rules, subst, sym}
use mir.Syntax.{w128}
use mir.Val.{to_z, of_z}
use Rattle.ice_tree.proofs.Filling.{times-within}
use Rattle.ice_tree.proofs.weights.times.Goals as goal

pub returns-clause-low : goal.returns-clause-low
returns-clause-low c =
    let same : to_z w128 (of_z w128 (to_z w128 (of_z w128 c.from.result) *ℤ to_z w128 (of_z w128 c.from-2.result))) ≡ pos c.args.weight *ℤ c.args.value = search rules in
    subst (λ z. neg_ℤ (pos 100000000000) ≤ℤ z) (sym same) (times-within c.args.weight c.args.value c.requires.weight c.requires.low c.requires.high).0

pub returns-clause-high : goal.returns-clause-high
returns-clause-high c =
    let same : to_z w128 (of_z w128 (to_z w128 (of_z w128 c.from.result) *ℤ to_z w128 (of_z w128 c.from-2.result))) ≡ pos c.args.weight *ℤ c.args.value = search rules in
    subst (λ z. z ≤ℤ pos 100000000000) (sym same) (times-within c.args.weight c.args.value c.requires.weight c.requires.low c.requires.high).1
