use Rattle.std.proofs.Common.{◌≡◌, arith, false, true, inl, inr, refl, rules, to_z, of_z}
use mir.Syntax.{w128}
use Rattle.ice_defs.specs.Derived.{IsBoundWith}
use Rattle.ice_defs.proofs.Integers.{int_le-true}
use Rattle.ice_bound.specs.Answer.{IsFirstDead}
use Rattle.ice_derived.proofs.Following.{sign_of_leaf, leaf_has_sign, bound_of_leaf, int_le-above}
use Rattle.ice_derived.specs.Weighing.{weights_in}
use Rattle.ice_derived.proofs.leaf.judge_leaf.Goals as goal

pub returns-then-has_wrong_signs-clause-fault : goal.returns-then-has_wrong_signs-clause-fault
returns-then-has_wrong_signs-clause-fault c =
    leaf_has_sign c.args.room.now c.args.derived.now.goods c.args.m.now c.args.derived.now.tolls c.requires.goods (omega (arith, c.len-count.ensures.tolls)) (c.if-has_wrong_signs.ensures.0 refl)

pub returns-in-Dead-clause-ok : goal.returns-in-Dead-clause-ok
returns-in-Dead-clause-ok c =
    let is : IsFirstDead c.args.trees.now c.args.marks.now c.in-Dead.field-0 = c.in-Dead.ensures in (
      λ w.
          let e : false ≡ true = c.if-has_wrong_signs.ensures.1 (sign_of_leaf c.args.room.now c.args.derived.now.goods c.args.m.now c.args.derived.now.tolls c.requires.goods w) in
          cc,
      inl (c.in-Dead.field-0, (is.there, is.dead)),
    )

pub returns-then-bound-target-clause-ok : goal.returns-then-bound-target-clause-ok
returns-then-bound-target-clause-ok c =
    let is : IsBoundWith c.args.derived.now.goods c.args.derived.now.tolls c.args.trees.now (weights_in c.args.weights.now) c.args.m.now c.args.marks.now c.in-AtMost.bound = c.in-AtMost.ensures in
    let same : to_z w128 (of_z w128 c.in-AtMost.bound) ≡ c.in-AtMost.bound = search rules in
    let same_target : to_z w128 (of_z w128 c.args.target) ≡ c.args.target = search rules in (
      λ w.
          let e : false ≡ true = c.if-has_wrong_signs.ensures.1 (sign_of_leaf c.args.room.now c.args.derived.now.goods c.args.m.now c.args.derived.now.tolls c.requires.goods w) in
          cc,
      inr (
        c.in-AtMost.bound,
        bound_of_leaf c.args.room.now c.args.derived.now.goods c.args.m.now c.args.derived.now.tolls c.requires.goods c.args.trees.now (weights_in c.args.weights.now) c.args.marks.now c.in-AtMost.bound is,
        int_le-true _ _ (rw (same, same_target) at c.if-bound-target.true),
      ),
    )

pub returns-else-bound-target-clause-fault : goal.returns-else-bound-target-clause-fault
returns-else-bound-target-clause-fault c =
    let is : IsBoundWith c.args.derived.now.goods c.args.derived.now.tolls c.args.trees.now (weights_in c.args.weights.now) c.args.m.now c.args.marks.now c.in-AtMost.bound = c.in-AtMost.ensures in
    let same : to_z w128 (of_z w128 c.in-AtMost.bound) ≡ c.in-AtMost.bound = search rules in
    let same_target : to_z w128 (of_z w128 c.args.target) ≡ c.args.target = search rules in
    rw same (
      λ w.
          let e : false ≡ true = c.if-has_wrong_signs.ensures.1 (sign_of_leaf c.args.room.now c.args.derived.now.goods c.args.m.now c.args.derived.now.tolls c.requires.goods w) in
          cc,
      bound_of_leaf c.args.room.now c.args.derived.now.goods c.args.m.now c.args.derived.now.tolls c.requires.goods c.args.trees.now (weights_in c.args.weights.now) c.args.marks.now c.in-AtMost.bound is,
      int_le-above _ _ (rw (same, same_target) at c.if-bound-target.false),
    )
