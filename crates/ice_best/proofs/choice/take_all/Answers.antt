use Rattle.std.proofs.Common.{arith, get_or, length, ◌<◌, refl, true, below_more}
use Rattle.ice_best.proofs.Flags.{taken_more, ChangesOnly-put}
use Rattle.ice_best.proofs.choice.take_all.Goals as goal

pub loop-child-preserved : goal.loop-child-preserved
loop-child-preserved c =
    let cs = c.args.children.now in
    let i = c.loop-child.child-index in
    let inside = c.loop-child-test.true in
    let there : get_or cs i 0 < length c.loop-child.taken = omega (arith, c.requires.taken i inside) in
    record {
      taken_is = taken_more cs c.loop-child.taken (λ n. true) i true c.requires.increasing inside there c.loop-child.invariant.taken_is refl;
      can = below_more _ _ c.loop-child.invariant.can c.if-not-possible-child.false;
      same = ChangesOnly-put c.args.taken.now c.loop-child.taken cs i true inside c.loop-child.invariant.same;
    }
