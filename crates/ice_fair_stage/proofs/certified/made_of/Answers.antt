use Rattle.std.proofs.Common.{◌≡◌, ◌*◌, ◌∙◌, ◌^◌, ap, sym, subst, pos, ◌≤ℤ◌, take, drop, arith}
use Rattle.std.specs.List.{AllByRecursion}
use Rattle.ice_defs.specs.PricingRun.{num_over}
use Rattle.ice_pricing_laws.specs.Weights.{nums_over}
use Rattle.ice_turns.proofs.LargeWeights.{fitting-proper}
use Rattle.ice_fair_laws.specs.Fair.{FairCertificate}
use Rattle.ice_fair_stage.proofs.Certifying.{certificate-made, made-with}
use Rattle.ice_fair_stage.proofs.certified.made_of.Goals as goal

pub common_den-requires-clause-fractions : goal.common_den-requires-clause-fractions
common_den-requires-clause-fractions c = fitting-proper (2 ^ 24) c.args.weights.now c.requires.fits

pub numerators-requires-clause-low : goal.numerators-requires-clause-low
numerators-requires-clause-low c = subst (λ d. AllByRecursion (λ w. pos 0 ≤ℤ num_over d w) c.args.weights.now) (sym c.in-Some.ensures.value) c.requires.low

pub returns-clause-value : goal.returns-clause-value
returns-clause-value c =
    let numbers : c.deref.result.now ≡ nums_over c.in-Some.den c.args.weights.now = c.deref.ensures.value ∙ c.in_ok-numbers.ensures.value in
    let place : 2 * c.from.result ≡ 2 * c.args.bidders = omega (arith, c.from.ensures) in
    let front : c.split_at.result.0.now ≡ take (2 * c.from.result) (nums_over c.in-Some.den c.args.weights.now) = c.split_at.ensures.front ∙ ap (take (2 * c.from.result)) numbers in
    let back : c.split_at.result.1.now ≡ drop (2 * c.from.result) (nums_over c.in-Some.den c.args.weights.now) = c.split_at.ensures.back ∙ ap (drop (2 * c.from.result)) numbers in
    let made : FairCertificate = record { den = c.in-Some.den; low = c.in_ok-low.field-0.low.items; high = c.in_ok-low.field-0.high.items; rows = c.in_ok-rows.rows.items } in
    let is = made-with c.args.bidders (2 * c.from.result) c.in-Some.den c.args.pool.now (nums_over c.in-Some.den c.args.weights.now) c.split_at.result.0.now c.split_at.result.1.now
    c.in_ok-low.field-0.low.items c.in_ok-low.field-0.high.items c.in_ok-rows.rows.items place front back c.in_ok-low.ensures.low c.in_ok-low.ensures.high c.in_ok-rows.ensures in
    let low = subst (λ d. AllByRecursion (λ w. pos 0 ≤ℤ num_over d w) c.args.weights.now) (sym c.in-Some.ensures.value) c.requires.low in
    certificate-made c.args.bidders c.args.pool.now c.args.weights.now made c.in-Some.den c.in-Some.ensures.value is c.in-Some.ensures.positive c.in-Some.ensures.fits c.requires.pool c.requires.same_length low
    c.in_ok-numbers.ensures.fits
