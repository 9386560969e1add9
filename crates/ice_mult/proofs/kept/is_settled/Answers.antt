use Rattle.std.proofs.Common.{arith, ◌<◌, sym, ◌∙◌, refl, subst, length}
use Rattle.ice_defs.specs.Trade.{is_exact}
use Rattle.ice_bound.specs.Multipliers.{multiplier_of}
use Rattle.ice_bound.specs.Direction.{toward}
use Rattle.ice_mult.specs.Foot.{IsAllowed}
use Rattle.ice_mult.specs.Moved.{IsSumWith}
use Rattle.ice_mult.proofs.Found.{foot_is_lowest}
use Rattle.ice_mult.proofs.Settling.{plain_way, stays_moved}
use Rattle.ice_mult.proofs.kept.is_settled.Goals as goal

pub returns-then-tells-clause-yes : goal.returns-then-tells-clause-yes
returns-then-tells-clause-yes c = λ yes.
    let kept = c.args.kept.now in
    let g = c.args.good in
    let d = c.of-direction.result in
    let k = c.unsigned_abs-steps.result in
    let there : g < length kept.multipliers = omega (arith, c.requires.may.there, c.requires.may.goods) in
    let allowed : IsAllowed (is_exact kept.exact g) d = subst (λ e. IsAllowed e d) c.is_exact.ensures (c.tells.ensures.allowed c.if-tells.true) in
    let found =
    foot_is_lowest kept.trees kept.exact kept.weights kept.marks kept.multipliers g there d k (omega (arith, c.tells.ensures.steps c.if-tells.true)) allowed
    (λ none. plain_way (IsSumWith kept g) (is_exact kept.exact g) d allowed (sym c.is_exact.ensures ∙ c.tells.ensures.zero c.if-tells.true none)) (c.has_foot.ensures.foot yes) in
    (toward d k, found.0, found.1, c.has_foot.ensures.moved)

pub returns-else-tells-clause-moved : goal.returns-else-tells-clause-moved
returns-else-tells-clause-moved c = (multiplier_of c.args.kept.now.multipliers c.args.good, stays_moved c.args.kept.now c.args.good _ refl)
