use Rattle.std.proofs.Common.{◌≡◌, ◌∙◌, ◌<◌, List, ℕ, ap, refl, arith}
use Rattle.std.proofs.lemmas.Int.{ints}
use Rattle.ice_fair.specs.Tested.{numbers_of}
use Rattle.ice_fair.proofs.Passing.{near-over, near-yes, near-tested}
use Rattle.ice_fair.proofs.check.are_nearest.Goals as goal

pub returns-then-not-is_over_both-clause-no : goal.returns-then-not-is_over_both-clause-no
returns-then-not-is_over_both-clause-no c =
    let positive : 0 < c.args.prices.now.den = omega (arith, c.den-positive.ensures.limits.den.0) in
    λ near. c.if-not-is_over_both.ensures.no
    (near-over c.args.last.now c.trade.result c.cut.result c.nums.result.now c.args.prices.now c.greatest_gap-gap.result c.args.distance.now c.trade.ensures.value c.cut.ensures.value c.trade.ensures.lawful.paid c.nums.ensures.over positive c.den-proper.ensures.lowest.positive
    c.greatest_gap-gap.ensures.greatest _ near.distance_is (omega (arith, ints, c.greatest_gap-gap.ensures.low, c.greatest_gap-gap.ensures.high)))

pub returns-clause-yes : goal.returns-clause-yes
returns-clause-yes c =
    let positive : 0 < c.args.prices.now.den = omega (arith, c.den-positive.ensures.limits.den.0) in
    let certs : numbers_of c.certificate.inside.certificate c.deref.result.now c.deref-2.result.now ≡ c.args.certificate.now =
    ap (λ (z : List ℕ). numbers_of c.certificate.inside.certificate z c.deref-2.result.now) c.deref.ensures.value
    ∙ ap (λ (z : List ℕ). numbers_of c.certificate.inside.certificate c.certificate.inside.low.items z) c.deref-2.ensures.value ∙ c.certificate.view_is in
    λ h. near-yes c.args.last.now c.trade.result c.cut.result c.nums.result.now c.args.prices.now c.greatest_gap-gap.result c.args.distance.now c.trade.ensures.value c.cut.ensures.value c.trade.ensures.lawful.paid c.nums.ensures.over positive c.den-proper.ensures.lowest.positive
    c.greatest_gap-gap.ensures.greatest c.args.certificate.now _ c.args.violation _ _ _ (c.if-not-is_over_both.ensures.yes refl) (c.passes.ensures.yes h) c.requires.certificate certs
    (omega (arith, ints, c.requires.violation, c.requires.violation_high))
    (omega (arith, ints, c.greatest_gap-gap.ensures.low, c.greatest_gap-gap.ensures.high))
    (omega (arith, ints, c.greatest_gap-gap.ensures.low, c.greatest_gap-gap.ensures.high))

pub returns-clause-no : goal.returns-clause-no
returns-clause-no c =
    let positive : 0 < c.args.prices.now.den = omega (arith, c.den-positive.ensures.limits.den.0) in
    let certs : numbers_of c.certificate.inside.certificate c.deref.result.now c.deref-2.result.now ≡ c.args.certificate.now =
    ap (λ (z : List ℕ). numbers_of c.certificate.inside.certificate z c.deref-2.result.now) c.deref.ensures.value
    ∙ ap (λ (z : List ℕ). numbers_of c.certificate.inside.certificate c.certificate.inside.low.items z) c.deref-2.ensures.value ∙ c.certificate.view_is in
    λ near. c.passes.ensures.no
    (near-tested c.args.last.now c.trade.result c.cut.result c.nums.result.now c.args.prices.now c.greatest_gap-gap.result c.args.distance.now c.trade.ensures.value c.cut.ensures.value c.trade.ensures.lawful.paid c.nums.ensures.over positive c.den-proper.ensures.lowest.positive
    c.greatest_gap-gap.ensures.greatest c.args.certificate.now _ c.args.violation _ _ _ (c.if-not-is_over_both.ensures.yes refl) near certs
    (omega (arith, ints, c.requires.violation, c.requires.violation_high))
    (omega (arith, ints, c.greatest_gap-gap.ensures.low, c.greatest_gap-gap.ensures.high))
    (omega (arith, ints, c.greatest_gap-gap.ensures.low, c.greatest_gap-gap.ensures.high)))
