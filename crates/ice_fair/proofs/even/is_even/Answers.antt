use Rattle.std.proofs.Common.{ℤ, ℕ, ◌≡◌, ◌∙◌, ◌^◌, IsTrue, ap, sym, pos, neg_ℤ, ◌+ℤ◌, ◌-ℤ◌, ◌*ℤ◌, ◌≤ℤ◌, nat_eq, arith, rules, to_z, of_z}
use mir.Syntax.{w128}
use mir.Val.{SFits}
use Rattle.std.proofs.lemmas.Int.{ints, to_z-of_z}
use Rattle.std.proofs.lemmas.Bool.Decides.{nat_tests}
use Rattle.ice_fair.proofs.even.is_even.Goals as goal

back : (z : ℤ) → neg_ℤ (pos (2 ^ 127)) ≤ℤ z → z ≤ℤ pos (2 ^ 126) → to_z w128 (of_z w128 z) ≡ z
back z low high = omega (arith, ints, low, high)

large : (x y : ℤ) → pos (2 ^ 127) ≤ℤ x → y ≤ℤ pos (2 ^ 126) → x ≡ y → ⊥
large x y high low e = omega (arith, ints, high, low, e)

-- five numbers that are read back, on the left
left_read : (a b c d e a' b' c' d' e' : ℤ) → a ≡ a' → b ≡ b' → c ≡ c' → d ≡ d' → e ≡ e' → (a *ℤ (b *ℤ c)) +ℤ (a *ℤ (d *ℤ e)) ≡ (a' *ℤ (b' *ℤ c')) +ℤ (a' *ℤ (d' *ℤ e'))
left_read a b c d e a' b' c' d' e' p q r s t = cc

right_read : (a b c d e f a' b' c' d' e' f' : ℤ) → a ≡ a' → b ≡ b' → c ≡ c' → d ≡ d' → e ≡ e' → f ≡ f'
    → ((b *ℤ c) +ℤ (a *ℤ (b *ℤ d))) -ℤ (e *ℤ f) ≡ ((b' *ℤ c') +ℤ (a' *ℤ (b' *ℤ d'))) -ℤ (e' *ℤ f')
right_read a b c d e f a' b' c' d' e' f' p q r s t u = cc

same_from : (m n : ℕ) → IsTrue (nat_eq m n) → m ≡ n
same_from m n h = grind (arith, nat_tests)

same_to : (m n : ℕ) → m ≡ n → IsTrue (nat_eq m n)
same_to m n e = grind (arith, nat_tests)

pub returns-in-Some-clause-yes : goal.returns-in-Some-clause-yes
returns-in-Some-clause-yes c =
    let cut_fits : SFits w128 c.args.dens.cut = search rules in
    let den_fits : SFits w128 c.args.dens.prices = search rules in
    let cost_fits : SFits w128 c.args.amounts.cost = search rules in
    let violation_fits : SFits w128 c.args.amounts.violation = search rules in
    let weight_fits : SFits w128 c.args.amounts.weight = search rules in
    let paid_fits : SFits w128 c.args.amounts.paid = search rules in
    let worth_fits : SFits w128 c.args.amounts.worth = search rules in
    let cert_fits : SFits w128 c.args.dens.certificate = search rules in
    let gap_fits : SFits w128 c.args.amounts.gap = search rules in
    let sum_fits : SFits w128 c.in-Some.sum = search rules in
    let cut = to_z-of_z w128 c.args.dens.cut cut_fits in
    let den = to_z-of_z w128 c.args.dens.prices den_fits in
    let left = left_read _ _ _ _ _ _ _ _ _ _ cut den (to_z-of_z w128 c.args.amounts.cost cost_fits) (to_z-of_z w128 c.args.amounts.violation violation_fits) (to_z-of_z w128 c.args.amounts.weight weight_fits) in
    let right = right_read _ _ _ _ _ _ _ _ _ _ _ _ cut den (to_z-of_z w128 c.args.amounts.paid paid_fits) (to_z-of_z w128 c.args.amounts.worth worth_fits) (to_z-of_z w128 c.args.dens.certificate cert_fits) (to_z-of_z w128 c.args.amounts.gap gap_fits) in
    let read = back c.right-other.result c.right-other.ensures.low c.right-other.ensures.high in
    λ h. let bits = same_from _ _ h in
    sym left ∙ sym c.in-Some.ensures.some ∙ sym (to_z-of_z w128 c.in-Some.sum sum_fits) ∙ ap (to_z w128) bits ∙ read ∙ c.right-other.ensures.value ∙ right

pub returns-in-Some-clause-no : goal.returns-in-Some-clause-no
returns-in-Some-clause-no c =
    let cut_fits : SFits w128 c.args.dens.cut = search rules in
    let den_fits : SFits w128 c.args.dens.prices = search rules in
    let cost_fits : SFits w128 c.args.amounts.cost = search rules in
    let violation_fits : SFits w128 c.args.amounts.violation = search rules in
    let weight_fits : SFits w128 c.args.amounts.weight = search rules in
    let paid_fits : SFits w128 c.args.amounts.paid = search rules in
    let worth_fits : SFits w128 c.args.amounts.worth = search rules in
    let cert_fits : SFits w128 c.args.dens.certificate = search rules in
    let gap_fits : SFits w128 c.args.amounts.gap = search rules in
    let cut = to_z-of_z w128 c.args.dens.cut cut_fits in
    let den = to_z-of_z w128 c.args.dens.prices den_fits in
    let left = left_read _ _ _ _ _ _ _ _ _ _ cut den (to_z-of_z w128 c.args.amounts.cost cost_fits) (to_z-of_z w128 c.args.amounts.violation violation_fits) (to_z-of_z w128 c.args.amounts.weight weight_fits) in
    let right = right_read _ _ _ _ _ _ _ _ _ _ _ _ cut den (to_z-of_z w128 c.args.amounts.paid paid_fits) (to_z-of_z w128 c.args.amounts.worth worth_fits) (to_z-of_z w128 c.args.dens.certificate cert_fits) (to_z-of_z w128 c.args.amounts.gap gap_fits) in
    λ e. same_to _ _ (ap (of_z w128) (c.in-Some.ensures.some ∙ left ∙ e ∙ sym (c.right-other.ensures.value ∙ right)))

pub returns-in-None-clause-no : goal.returns-in-None-clause-no
returns-in-None-clause-no c =
    let cut_fits : SFits w128 c.args.dens.cut = search rules in
    let den_fits : SFits w128 c.args.dens.prices = search rules in
    let cost_fits : SFits w128 c.args.amounts.cost = search rules in
    let violation_fits : SFits w128 c.args.amounts.violation = search rules in
    let weight_fits : SFits w128 c.args.amounts.weight = search rules in
    let paid_fits : SFits w128 c.args.amounts.paid = search rules in
    let worth_fits : SFits w128 c.args.amounts.worth = search rules in
    let cert_fits : SFits w128 c.args.dens.certificate = search rules in
    let gap_fits : SFits w128 c.args.amounts.gap = search rules in
    let cut = to_z-of_z w128 c.args.dens.cut cut_fits in
    let den = to_z-of_z w128 c.args.dens.prices den_fits in
    let left = left_read _ _ _ _ _ _ _ _ _ _ cut den (to_z-of_z w128 c.args.amounts.cost cost_fits) (to_z-of_z w128 c.args.amounts.violation violation_fits) (to_z-of_z w128 c.args.amounts.weight weight_fits) in
    let right = right_read _ _ _ _ _ _ _ _ _ _ _ _ cut den (to_z-of_z w128 c.args.amounts.paid paid_fits) (to_z-of_z w128 c.args.amounts.worth worth_fits) (to_z-of_z w128 c.args.dens.certificate cert_fits) (to_z-of_z w128 c.args.amounts.gap gap_fits) in
    λ e. absurd (large _ c.right-other.result c.in-None.ensures.none c.right-other.ensures.high (left ∙ e ∙ sym (c.right-other.ensures.value ∙ right)))
