use Rattle.std.proofs.Common.{ℤ, ◌≡◌, ◌∙◌, ◌^◌, ◌*◌, ap, pos, neg_ℤ, ◌+ℤ◌, ◌-ℤ◌, ◌*ℤ◌, ◌≤ℤ◌, arith, rules, to_z, of_z}
use mir.Syntax.{w128}
use mir.Val.{SFits}
use Rattle.std.proofs.lemmas.Int.{ints, to_z-of_z}
use Rattle.ice_fair.proofs.even.right.Goals as goal

back : (z : ℤ) → neg_ℤ (pos (2 ^ 127)) ≤ℤ z → z ≤ℤ pos (2 ^ 126) → to_z w128 (of_z w128 z) ≡ z
back z low high = omega (arith, ints, low, high)

wider : (z : ℤ) → neg_ℤ (pos (2 ^ 126)) ≤ℤ z → z ≤ℤ pos (2 ^ 126) → to_z w128 (of_z w128 z) ≡ z
wider z low high = omega (arith, ints, low, high)

wide : (z : ℤ) → neg_ℤ (pos (2 ^ 123)) ≤ℤ z → z ≤ℤ pos (2 ^ 123) → to_z w128 (of_z w128 z) ≡ z
wide z low high = omega (arith, ints, low, high)

paying : (z : ℤ) → neg_ℤ (pos (2 ^ 56 * 10 ^ 21)) ≤ℤ z → z ≤ℤ pos (2 ^ 56 * 10 ^ 21) → to_z w128 (of_z w128 z) ≡ z
paying z low high = omega (arith, ints, low, high)

middle : (z : ℤ) → neg_ℤ (pos (2 ^ 113)) ≤ℤ z → z ≤ℤ pos (2 ^ 113) → to_z w128 (of_z w128 z) ≡ z
middle z low high = omega (arith, ints, low, high)

above : (z : ℤ) → pos 0 ≤ℤ z → z ≤ℤ pos (2 ^ 126) → to_z w128 (of_z w128 z) ≡ z
above z low high = omega (arith, ints, low, high)

pub returns-clause-value : goal.returns-clause-value
returns-clause-value c =
    let paid_fits : SFits w128 c.args.paid = search rules in
    let paid = to_z-of_z w128 c.args.paid paid_fits in
    let worth_fits : SFits w128 c.args.worth = search rules in
    let worth = to_z-of_z w128 c.args.worth worth_fits in
    let den_fits : SFits w128 c.args.den = search rules in
    let den = to_z-of_z w128 c.args.den den_fits in
    let cut_fits : SFits w128 c.args.cut = search rules in
    let cut = to_z-of_z w128 c.args.cut cut_fits in
    let cert_fits : SFits w128 c.args.cert_den = search rules in
    let cert = to_z-of_z w128 c.args.cert_den cert_fits in
    let gap_fits : SFits w128 c.args.gap = search rules in
    let gap = to_z-of_z w128 c.args.gap gap_fits in
    let product = middle c.den_worth.result c.den_worth.ensures.low c.den_worth.ensures.high in
    let one : c.den_paid.result ≡ c.args.den *ℤ c.args.paid = c.den_paid.ensures.value ∙ ap (λ z. z *ℤ to_z w128 (of_z w128 c.args.paid)) den ∙ ap (λ z. c.args.den *ℤ z) paid in
    let inner : c.den_worth.result ≡ c.args.den *ℤ c.args.worth = c.den_worth.ensures.value ∙ ap (λ z. z *ℤ to_z w128 (of_z w128 c.args.worth)) den ∙ ap (λ z. c.args.den *ℤ z) worth in
    let two : c.cut_worth.result ≡ c.args.cut *ℤ (c.args.den *ℤ c.args.worth) =
    c.cut_worth.ensures.value ∙ ap (λ z. z *ℤ to_z w128 (of_z w128 c.den_worth.result)) cut ∙ ap (λ z. c.args.cut *ℤ z) (product ∙ inner) in
    let three : c.cert_gap.result ≡ c.args.cert_den *ℤ c.args.gap = c.cert_gap.ensures.value ∙ ap (λ z. z *ℤ to_z w128 (of_z w128 c.args.gap)) cert ∙ ap (λ z. c.args.cert_den *ℤ z) gap in
    let a = paying c.den_paid.result c.den_paid.ensures.low c.den_paid.ensures.high in
    let b = wide c.cut_worth.result c.cut_worth.ensures.low c.cut_worth.ensures.high in
    let d = above c.cert_gap.result c.cert_gap.ensures.low c.cert_gap.ensures.high in
    let s = wider c.sum.result c.sum.ensures.low c.sum.ensures.high in
    let all : c.sum.result ≡ c.den_paid.result +ℤ c.cut_worth.result = c.sum.ensures.value ∙ ap (λ z. z +ℤ to_z w128 (of_z w128 c.cut_worth.result)) a ∙ ap (λ z. c.den_paid.result +ℤ z) b in
    let rest : c.less.result ≡ c.sum.result -ℤ c.cert_gap.result = c.less.ensures.value ∙ ap (λ z. z -ℤ to_z w128 (of_z w128 c.cert_gap.result)) s ∙ ap (λ z. c.sum.result -ℤ z) d in
    let made = back c.less.result c.less.ensures.low c.less.ensures.high in
    made ∙ rest ∙ ap (λ z. z -ℤ c.cert_gap.result) (all ∙ ap (λ z. z +ℤ c.cut_worth.result) one ∙ ap (λ z. (c.args.den *ℤ c.args.paid) +ℤ z) two)
    ∙ ap (λ z. ((c.args.den *ℤ c.args.paid) +ℤ (c.args.cut *ℤ (c.args.den *ℤ c.args.worth))) -ℤ z) three
