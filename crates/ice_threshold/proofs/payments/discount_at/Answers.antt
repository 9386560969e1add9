use Rattle.std.proofs.Common.{◌≡◌, ℕ, ℤ, rules, subst, to_z, of_z}
use mir.Syntax.{w128}
use Rattle.ice_defs.specs.Fraction.{Fraction, Equals}
use Rattle.ice_threshold.specs.CutOff.{cut_num, IsCutDown}
use Rattle.ice_threshold.proofs.Paid.{cut_down_from}
use Rattle.ice_threshold.proofs.payments.discount_at.Goals as goal

pub returns-clause-cut_down : goal.returns-clause-cut_down
returns-clause-cut_down c =
    let num : to_z w128 (of_z w128 c.cut_off.result) ≡ cut_num c.cut.inside.num c.cut.inside.den c.args.vickrey = search rules in
    let q : ℕ = c.cut.inside.den in
    let equal = subst (λ (x : ℤ). Equals c.fraction.result (record { num = x; den = q })) num c.fraction.ensures.equal in
    subst (λ (f : Fraction). IsCutDown f c.fraction.result c.args.vickrey) c.cut.view_is
    (cut_down_from c.cut.inside.num q c.args.vickrey c.fraction.result c.cut.invariant.1 c.fraction.ensures.proper equal)
