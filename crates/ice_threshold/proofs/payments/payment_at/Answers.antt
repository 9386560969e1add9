use Rattle.std.proofs.Common.{◌≡◌, ◌≤◌, ◌^◌, ℕ, ℤ, pos, ◌*ℤ◌, ◌-ℤ◌, unsigned_abs, arith, rules, subst, to_z, of_z}
use mir.Syntax.{w128}
use Rattle.std.proofs.lemmas.Int.{ints}
use Rattle.ice_defs.specs.Fraction.{Fraction, Equals}
use Rattle.ice_threshold.specs.CutOff.{cut_num, IsPaid}
use Rattle.ice_threshold.proofs.Paid.{paid_from, paid_size}
use Rattle.ice_threshold.proofs.payments.payment_at.Goals as goal

pub returns-clause-paid : goal.returns-clause-paid
returns-clause-paid c =
    let q : ℕ = c.cut.inside.den in
    let product : c.scaled.result ≡ c.args.value *ℤ pos c.cut.inside.den = search rules in
    let part : c.cut_off.result ≡ cut_num c.cut.inside.num c.cut.inside.den c.args.vickrey = search rules in
    let num : to_z w128 (of_z w128 (to_z w128 (of_z w128 c.scaled.result) -ℤ to_z w128 (of_z w128 c.cut_off.result))) ≡ c.args.value *ℤ pos c.cut.inside.den -ℤ cut_num c.cut.inside.num c.cut.inside.den c.args.vickrey =
    omega (arith, ints, product, part) in
    let equal = subst (λ (x : ℤ). Equals c.fraction.result (record { num = x; den = q })) num c.fraction.ensures.equal in
    subst (λ (f : Fraction). IsPaid f c.fraction.result c.args.value c.args.vickrey) c.cut.view_is
    (paid_from c.cut.inside.num q c.args.value c.args.vickrey c.fraction.result c.cut.invariant.1 c.fraction.ensures.proper equal)

pub returns-clause-small : goal.returns-clause-small
returns-clause-small c =
    let q : ℕ = c.cut.inside.den in
    let product : c.scaled.result ≡ c.args.value *ℤ pos c.cut.inside.den = search rules in
    let num : to_z w128 (of_z w128 (to_z w128 (of_z w128 c.scaled.result) -ℤ to_z w128 (of_z w128 c.cut_off.result))) ≡ c.args.value *ℤ pos c.cut.inside.den -ℤ c.cut_off.result =
    omega (arith, ints, product) in
    let few : c.cut.inside.den ≤ 40 = c.cut.invariant.2 in
    let size : unsigned_abs (c.args.value *ℤ pos c.cut.inside.den -ℤ c.cut_off.result) ≤ 10 ^ 18 = paid_size c.args.value c.cut_off.result q c.requires.valued few c.cut_off.ensures.low c.cut_off.ensures.high in
    let high = subst (λ (x : ℤ). unsigned_abs c.fraction.result.num ≤ unsigned_abs x) num c.fraction.ensures.num_high in
    record { lowest = c.fraction.ensures.lowest; num_small = omega (arith, high, size); den_small = omega (arith, c.fraction.ensures.den_high, few) }
