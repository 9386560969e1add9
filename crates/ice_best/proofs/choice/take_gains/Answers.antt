use Rattle.std.proofs.Common.{arith, rules, to_z, of_z, ◌≡◌, ◌<◌, ℕ, cond, get_or, length, set, refl, ap, sym, ◌∙◌}
use mir.Syntax.{w128}
use Rattle.std.proofs.lemmas.Int.{ints}
use Rattle.ice_defs.specs.Set.{has, weight_of}
use Rattle.ice_best.proofs.Gains.{TakesGains-none, TakesGains-more, picked_count-put}
use Rattle.ice_best.proofs.Flags.{has-put_same, has-put_other, apart, ChangesOnly-put}
use Rattle.ice_best.proofs.choice.take_gains.Goals as goal
use Rattle.ice_best.proofs.choice.take_gains.Goals.{then-is_taken, else-is_taken}

pub loop-child-init : goal.loop-child-init
loop-child-init c = record {
  few = omega arith;
  count_is = omega arith;
  gains = TakesGains-none (weight_of c.args.gain.now) (has c.args.possible.now) (has c.args.taken.now) c.args.children.now;
  same = λ n other. refl;
}

pub loop-child-preserved : goal.loop-child-preserved
loop-child-preserved c =
    let cs = c.args.children.now in
    let taken = c.loop-child.taken in
    let i = c.loop-child.child-index in
    let b = c.is_gain-is_taken.result in
    let is = c.is_gain-is_taken.ensures in
    let up = c.requires.increasing in
    let inside = c.loop-child-test.true in
    let there : get_or c.args.children.now c.loop-child.child-index 0 < length c.loop-child.taken = omega (arith, c.requires.taken i inside) in
    let value : to_z w128 (of_z w128 (weight_of c.args.gain.now (get_or c.args.children.now c.loop-child.child-index 0))) ≡ weight_of c.args.gain.now (get_or c.args.children.now c.loop-child.child-index 0) = search rules in
    let settled = has-put_same taken (get_or cs i 0) b there in
    let count = picked_count-put cs taken i c.loop-child.count b up inside there c.loop-child.invariant.count_is in
    record {
      few = elim c.if-is_taken.branch [ then-is_taken w ↦ omega arith | else-is_taken w ↦ omega arith ];
      count_is =
          elim c.if-is_taken.branch [
            | then-is_taken w ↦ omega (arith, count, w.count-is, ap {B = ℕ} (λ x. cond x 1 0) w.if-is_taken.true)
            | else-is_taken w ↦ omega (arith, count, w.count-is, ap {B = ℕ} (λ x. cond x 1 0) w.if-is_taken.false)
          ];
      gains =
          TakesGains-more (weight_of c.args.gain.now) (has c.args.possible.now) (has c.args.taken.now) cs i (has taken) (has (set taken (get_or cs i 0) b)) inside
          (λ e. settled ∙ is.keeps e) (λ e f. let both = is.gains (sym settled ∙ e) f in (both.0, omega (arith, ints, value, both.1)))
          (λ f may. omega (arith, ints, value, is.left (sym settled ∙ f) may))
          (λ k h ne. has-put_other taken (get_or cs i 0) (get_or cs k 0) b (apart cs k i up h inside ne)) c.loop-child.invariant.gains;
      same = ChangesOnly-put c.args.taken.now taken cs i b inside c.loop-child.invariant.same;
    }
