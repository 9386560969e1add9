use Rattle.std.proofs.Common.{rules, arith, ◌+◌, ◌<◌, ◌≡◌, length, set, ap, sym, ◌∙◌, subst}
use Rattle.std.proofs.lemmas.Int.{to_z-of_z}
use mir.Syntax.{w128}
use mir.Val.{SFits}
use Rattle.ice_defs.specs.Bound.{IsNetSum}
use Rattle.ice_bound.specs.Beside.{beside}
use Rattle.ice_bound.specs.Multipliers.{multiplier_of}
use Rattle.ice_bound.specs.Direction.{toward}
use Rattle.ice_mult.specs.Moved.{IsSumWith}
use Rattle.ice_mult.proofs.Existing.{has_sum}
use Rattle.ice_mult.proofs.Tangents.{tangent}
use Rattle.ice_mult.proofs.Feet.{one_rests, one_on}
use Rattle.ice_mult.proofs.Settling.{unmoved}
use Rattle.ice_mult.proofs.kept.rests.Goals as goal

pub returns-clause-rests : goal.returns-clause-rests
returns-clause-rests c = λ yes.
    let kept = c.args.kept.now in
    let g = c.args.good in
    let d = c.args.direction in
    let k = c.args.steps in
    let here = c.total-here.result in
    let fits : SFits w128 here = search rules in
    let there : g < length kept.multipliers = omega (arith, c.requires.may.there, c.requires.may.goods) in
    let is_here : IsSumWith kept g (toward d k) here = subst (λ m. IsNetSum kept.trees kept.weights m kept.marks here) (sym (unmoved kept g (toward d k) c.requires.there)) c.total-here.ensures in
    let (after, is_after) = has_sum kept.trees kept.weights (set kept.multipliers g (toward d (k + 1))) kept.marks c.requires.may.live in
    let on : beside d (multiplier_of kept.multipliers g) ≡ toward d (k + 1) =
    ap (beside d) c.requires.there ∙ one_on d k in
    let answer = rw (to_z-of_z w128 here fits) at c.reaches_beside.ensures.answer in
    let up = (answer after (subst (λ z. IsNetSum kept.trees kept.weights (set kept.multipliers g z) kept.marks after) (sym on) is_after)).0 yes in
    one_rests (IsSumWith kept g) (tangent kept.multipliers g there kept.trees kept.weights kept.marks) d k here after is_here is_after up
