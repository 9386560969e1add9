use Rattle.std.proofs.Common.{◌≡◌, ◌∙◌, ◌^◌, ap, sym, subst, pos, ◌≤ℤ◌, List, IfErr, rules}
use Rattle.std.specs.Prelude.{Any}
use Rattle.std.specs.List.{AllByRecursion}
use Rattle.ice_defs.specs.Fraction.{Fraction, IsFraction}
use Rattle.ice_defs.specs.PricingRun.{common_den, num_over}
use Rattle.ice_pricing_laws.specs.Weights.{weights_of_duals, nums_over, rows_with}
use Rattle.ice_pricing_laws.proofs.Lowered.{lowered_are_weights}
use Rattle.ice_turns.specs.Large.{IsLarge, IsStoppedBy}
use Rattle.ice_turns.proofs.LargeWeights.{any-large, weighed-proper}
use Rattle.ice_turns.proofs.Stops.{if_err-map, stopped-map}
use Rattle.ice_price.proofs.Certifying.{certificate-made}
use Rattle.ice_price.proofs.weighing.certified.Goals as goal

pub returns-in_err-weights-clause-stopped : goal.returns-in_err-weights-clause-stopped
returns-in_err-weights-clause-stopped c =
    let ws : List Fraction = weights_of_duals c.args.factor c.args.duals.now in
    let one : IfErr c.from_residual.result (IsStoppedBy (Any (IsLarge (2 ^ 32)) (weights_of_duals c.args.factor c.args.duals.now))) = search rules in
    if_err-map c.from_residual.result (stopped-map (any-large (2 ^ 32) ws (weighed-proper c.args.factor c.args.duals.now c.requires.low))) one

pub common_den-requires-clause-fractions : goal.common_den-requires-clause-fractions
common_den-requires-clause-fractions c =
    subst (AllByRecursion IsFraction) (sym (c.deref.ensures.value ∙ c.in_ok-weights.ensures.value)) (weighed-proper c.args.factor c.args.duals.now c.requires.low)

pub numerators-requires-clause-low : goal.numerators-requires-clause-low
numerators-requires-clause-low c =
    let ws : List Fraction = weights_of_duals c.args.factor c.args.duals.now in
    let items : c.deref-2.result.now ≡ weights_of_duals c.args.factor c.args.duals.now = c.deref-2.ensures.value ∙ c.in_ok-weights.ensures.value in
    let den : c.in-Some.den ≡ common_den (weights_of_duals c.args.factor c.args.duals.now) = c.in-Some.ensures.value ∙ ap common_den (c.deref.ensures.value ∙ c.in_ok-weights.ensures.value) in
    subst (AllByRecursion (λ w. pos 0 ≤ℤ num_over c.in-Some.den w)) (sym items)
    (subst (λ d. AllByRecursion (λ w. pos 0 ≤ℤ num_over d w) ws) (sym den) (lowered_are_weights c.args.factor c.args.duals.now c.requires.low).1)

pub returns-clause-value : goal.returns-clause-value
returns-clause-value c =
    let ws : List Fraction = weights_of_duals c.args.factor c.args.duals.now in
    let items : c.deref-2.result.now ≡ weights_of_duals c.args.factor c.args.duals.now = c.deref-2.ensures.value ∙ c.in_ok-weights.ensures.value in
    let den : c.in-Some.den ≡ common_den (weights_of_duals c.args.factor c.args.duals.now) = c.in-Some.ensures.value ∙ ap common_den (c.deref.ensures.value ∙ c.in_ok-weights.ensures.value) in
    let low = subst (λ d. AllByRecursion (λ w. pos 0 ≤ℤ num_over d w) ws) (sym den) (lowered_are_weights c.args.factor c.args.duals.now c.requires.low).1 in
    let fits = subst (AllByRecursion (λ w. num_over c.in-Some.den w ≤ℤ pos (2 ^ 32))) items c.in_ok-numbers.ensures.fits in
    let rows : c.in_ok-rows.rows.items ≡ rows_with c.args.pool.now (nums_over c.in-Some.den ws) =
    c.in_ok-rows.ensures ∙ ap (rows_with c.args.pool.now) (c.deref-3.ensures.value ∙ c.in_ok-numbers.ensures.value ∙ ap (nums_over c.in-Some.den) items) in
    certificate-made c.args.pool.now ws c.in-Some.den c.in_ok-rows.rows.items den rows c.in-Some.ensures.positive c.in-Some.ensures.fits c.requires.pool low fits
