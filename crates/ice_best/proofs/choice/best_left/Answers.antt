use Rattle.std.proofs.Common.{rules, ◌≡◌, refl, get_or, to_z, of_z}
use mir.Syntax.{w128}
use Rattle.std.proofs.lemmas.Bool.{both_ways}
use Rattle.ice_defs.specs.Set.{has, weight_of}
use Rattle.ice_best.proofs.BestLeft.{IsBestOf-none, IsBestOf-skip, IsBestOf-offer}
use Rattle.ice_best.proofs.choice.best_left.Goals as goal
use Rattle.ice_best.proofs.choice.best_left.Goals.{then-possible-child+then-not-taken-child, else-possible-child, else-possible-child-via-then-possible-child+else-not-taken-child, else-possible-child-via-else-possible-child}

pub loop-child-init : goal.loop-child-init
loop-child-init c = IsBestOf-none (weight_of c.args.gain.now) (has c.args.possible.now) (has c.args.taken.now) c.args.children.now

pub loop-child-preserved : goal.loop-child-preserved
loop-child-preserved c =
    let gain = weight_of c.args.gain.now in
    let possible = has c.args.possible.now in
    let taken = has c.args.taken.now in
    let cs = c.args.children.now in
    let i = c.loop-child.child-index in
    let value : to_z w128 (of_z w128 (weight_of c.args.gain.now (get_or c.args.children.now c.loop-child.child-index 0))) ≡ weight_of c.args.gain.now (get_or c.args.children.now c.loop-child.child-index 0) = search rules in
    elim c.if-possible-child.branch [
      | then-possible-child+then-not-taken-child w ↦
          rw w.best-is
          (IsBestOf-offer gain possible taken cs i c.loop-child.best _ _ w.if-possible-child.true w.if-not-taken-child.true refl value w.better.ensures
          c.loop-child.invariant)
      | else-possible-child w ↦
          rw w.best-is (IsBestOf-skip gain possible taken cs i c.loop-child.best
          (λ may. elim w.else-possible-child.branch [
            | else-possible-child-via-then-possible-child+else-not-taken-child w' ↦ w'.if-not-taken-child.false
            | else-possible-child-via-else-possible-child w' ↦ absurd (both_ways _ w'.if-possible-child.false may)
          ]) c.loop-child.invariant)
    ]
