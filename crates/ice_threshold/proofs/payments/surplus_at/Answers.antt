use Rattle.std.proofs.Common.{◌≡◌, ℕ, ℤ, pos, ◌*ℤ◌, ◌-ℤ◌, arith, rules, subst, to_z, of_z}
use mir.Syntax.{w128}
use Rattle.std.proofs.lemmas.Int.{ints}
use Rattle.ice_defs.specs.Sum.{sum_over}
use Rattle.ice_defs.specs.Fraction.{Fraction, Equals, whole_number, minus}
use Rattle.ice_defs.specs.Cut.{cut_sum}
use Rattle.ice_threshold.specs.CutOff.{cut_num}
use Rattle.ice_threshold.proofs.Paid.{surplus_from}
use Rattle.ice_threshold.proofs.payments.surplus_at.Goals as goal

pub returns-clause-equal : goal.returns-clause-equal
returns-clause-equal c =
    let q : ℕ = c.cut.inside.den in
    let product : c.scaled.result ≡ c.args.total *ℤ pos c.cut.inside.den = search rules in
    let part : c.sum_cut_off.result ≡ sum_over (cut_num c.cut.inside.num c.cut.inside.den) c.args.vickrey.now = search rules in
    let num : to_z w128 (of_z w128 (to_z w128 (of_z w128 c.scaled.result) -ℤ to_z w128 (of_z w128 c.sum_cut_off.result))) ≡ c.args.total *ℤ pos c.cut.inside.den -ℤ sum_over (cut_num c.cut.inside.num c.cut.inside.den) c.args.vickrey.now =
    omega (arith, ints, product, part) in
    let equal = subst (λ (x : ℤ). Equals c.fraction.result (record { num = x; den = q })) num c.fraction.ensures.equal in
    subst (λ (f : Fraction). Equals c.fraction.result (minus (whole_number c.args.total) (cut_sum f c.args.vickrey.now))) c.cut.view_is
    (surplus_from c.cut.inside.num q c.args.total c.args.vickrey.now c.fraction.result c.cut.invariant.1 equal)
