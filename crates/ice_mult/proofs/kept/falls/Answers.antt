use Rattle.std.proofs.Common.{rules, arith, ◌+◌, ◌-◌, ◌≡◌, set, ap, sym, ◌∙◌, subst}
use Rattle.std.proofs.lemmas.Int.{ints, to_z-of_z}
use mir.Syntax.{w128}
use mir.Val.{SFits}
use Rattle.ice_defs.specs.Bound.{IsNetSum}
use Rattle.ice_bound.specs.Beside.{beside}
use Rattle.ice_bound.specs.Multipliers.{multiplier_of}
use Rattle.ice_bound.specs.Direction.{toward, opposite}
use Rattle.ice_mult.specs.Foot.{Falls}
use Rattle.ice_mult.specs.Moved.{IsSumWith}
use Rattle.ice_mult.proofs.Existing.{has_sum}
use Rattle.ice_mult.proofs.Feet.{one_falls, one_back}
use Rattle.ice_mult.proofs.Settling.{unmoved}
use Rattle.ice_mult.proofs.kept.falls.Goals as goal

pub returns-in-Some-clause-falls : goal.returns-in-Some-clause-falls
returns-in-Some-clause-falls c = λ yes.
    let kept = c.args.kept.now in
    let g = c.args.good in
    let d = c.args.direction in
    let j = c.args.steps - 1 in
    let here = c.total.result in
    let back : j + 1 ≡ c.args.steps = omega arith in
    let m = kept.multipliers in
    let is_here : IsSumWith kept g (toward d (j + 1)) here =
    subst (λ k. IsSumWith kept g (toward d k) here) (sym back)
    (subst (λ n. IsNetSum kept.trees kept.weights n kept.marks here) (sym (unmoved kept g (toward d c.args.steps) c.requires.there)) c.total.ensures) in
    let (before, is_before) = has_sum kept.trees kept.weights (set m g (toward d j)) kept.marks c.requires.may.live in
    let at : multiplier_of m g ≡ toward d (j + 1) = c.requires.there ∙ ap (toward d) (sym back) in
    let down : beside c.opposite.result (multiplier_of m g) ≡ toward d j =
    ap (λ e. beside e (multiplier_of m g)) c.opposite.ensures ∙ ap (beside (opposite d)) at ∙ one_back d j in
    let more_fits : SFits w128 c.in-Some.more = search rules in
    let here_fits : SFits w128 here = search rules in
    let more = rw (to_z-of_z w128 here here_fits) at c.in-Some.ensures in
    let answer = rw (to_z-of_z w128 c.in-Some.more more_fits) at c.reaches_beside.ensures.answer in
    let up = (answer before (subst (λ z. IsNetSum kept.trees kept.weights (set m g z) kept.marks before) (sym down) is_before)).0 yes in
    subst (λ k. Falls (IsSumWith kept g) d k) back (one_falls (IsSumWith kept g) d j before here is_before is_here (omega (arith, ints, up, more)))
