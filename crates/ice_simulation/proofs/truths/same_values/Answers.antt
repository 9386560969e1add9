use Rattle.std.proofs.Common.{List, ℤ, ap, sym, length, arith, of_z}
use mir.Syntax.{w64}
use Rattle.ice_simulation.specs.TruthFile.{same_values}
use Rattle.ice_simulation.proofs.Telling.{comes_false, same_values-is, same_values-from}
use Rattle.ice_proxy.proofs.Proposals.{same_lists}
use Rattle.ice_defs.specs.Set.{weight_of}
use Rattle.ice_simulation.proofs.truths.same_values.Goals as goal

pub returns-then-one-other : goal.returns-then-one-other
returns-then-one-other c =
    comes_false (same_values c.args.one.now c.args.other.now) (λ e. c.if-one-other.true (ap length (same_values-is c.args.one.now c.args.other.now e)))

pub returns-then-one-place : goal.returns-then-one-place
returns-then-one-place c =
    comes_false (same_values c.args.one.now c.args.other.now)
    (λ e. c.if-one-place.true (ap (λ (zs : List ℤ). of_z w64 (weight_of zs c.loop-place.place)) (same_values-is c.args.one.now c.args.other.now e)))

pub returns : goal.returns
returns c =
    sym (same_values-from c.args.one.now c.args.other.now
    (same_lists c.args.one.now c.args.other.now (omega (arith, c.if-one-other.false)) (λ n h. c.loop-place.invariant n (omega (arith, h, c.loop-place-test.false)))))
