use Rattle.std.proofs.Common.{◌∙◌, ◌++◌, length, ℤ, ap, sym, subst}
use Rattle.std.proofs.lemmas.Bool.{true≢false}
use Rattle.std.proofs.lemmas.Int.{to_z-of_z}
use Rattle.std.proofs.lemmas.Result.{err_from_is_err_and}
use mir.Syntax.{w128}
use Rattle.ice_defs.specs.Derived.{with_derived}
use Rattle.ice_defs.specs.Steps.{leaf}
use Rattle.ice_refute.specs.Passing.{PassesAtBy, HasFaultBy}
use Rattle.ice_refute.specs.Waiting.{first_side}
use Rattle.ice_derived.specs.Weighing.{weights_in}
use Rattle.ice_derivation.specs.Walks.{WalkView}
use Rattle.ice_derivation.proofs.Numbers.{length-changed}
use Rattle.ice_derivation.proofs.walk.TollWalk.leaf.Goals as goal

pub returns-in_err-take_leaf-clause-fault : goal.returns-in_err-take_leaf-clause-fault
returns-in_err-take_leaf-clause-fault c =
    let why = c.in_err-take_leaf.field-0.0 in
    let p = err_from_is_err_and c.from_residual.result c.from_residual.ensures.1 in
    let seen = c.self.view_is ∙ c.change.ensures in
    rw (p.1, p.2) (
      λ h. true≢false (sym (c.has_no_change.ensures.1 h) ∙ c.if-has_no_change.false),
      subst (λ (v : WalkView). HasFaultBy (with_derived v.derived) c.args.trees.now v.exact (weights_in c.args.weighing.now) c.args.target (first_side v.sides) (leaf v.numbers) why) seen
          (subst (λ (z : ℤ). HasFaultBy (with_derived c.self.inside.derived.goods) c.args.trees.now c.self.inside.desk.room (weights_in c.args.weighing.now) z (first_side c.self.inside.walk.sides)
          (leaf (c.self.inside.rates ++ c.self.inside.derived.tolls)) why)
          (to_z-of_z w128 c.args.target c.ranges.target) c.in_err-take_leaf.ensures.fault),
    )

pub returns-in_err-take_leaf-clause-numbers : goal.returns-in_err-take_leaf-clause-numbers
returns-in_err-take_leaf-clause-numbers c =
    ap (λ (v : WalkView). length v.numbers) (c.self.view_is ∙ c.change.ensures) ∙ length-changed c.args.self.now.numbers c.args.changes.now

pub returns-clause-passes : goal.returns-clause-passes
returns-clause-passes c =
    subst (λ (v : WalkView). PassesAtBy (with_derived v.derived) c.args.trees.now v.exact (weights_in c.args.weighing.now) c.args.target (first_side v.sides) (leaf v.numbers))
    (c.self.view_is ∙ c.change.ensures)
    (subst (λ (z : ℤ). PassesAtBy (with_derived c.self.inside.derived.goods) c.args.trees.now c.self.inside.desk.room (weights_in c.args.weighing.now) z (first_side c.self.inside.walk.sides)
    (leaf (c.self.inside.rates ++ c.self.inside.derived.tolls)))
    (to_z-of_z w128 c.args.target c.ranges.target) c.in_ok-take_leaf.ensures.ok)

pub returns-clause-numbers : goal.returns-clause-numbers
returns-clause-numbers c =
    ap (λ (v : WalkView). length v.numbers) (c.self.view_is ∙ c.change.ensures) ∙ length-changed c.args.self.now.numbers c.args.changes.now
