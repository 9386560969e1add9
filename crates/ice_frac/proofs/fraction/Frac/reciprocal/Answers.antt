use Rattle.std.proofs.Common.{◌≡◌, ◌≢◌, pos, subst, sym, ap, ◌∙◌, rules, to_z, of_z}
use mir.Syntax.{w128}
use Rattle.ice_defs.specs.Fraction.{Fraction}
use Rattle.ice_defs.specs.Frac.{reciprocal}
use Rattle.ice_frac.specs.Lowest.{IsLowest}
use Rattle.ice_frac.proofs.Lowest.{IsLowest-reciprocal, reciprocal_is}
use Rattle.ice_frac.proofs.fraction.Frac.reciprocal.Goals as goal

pub invariant_of-result : goal.invariant_of-result
invariant_of-result c =
    let a : Fraction = record { num = c.self.inside.num; den = c.self.inside.den } in
    let nonzero : c.self.inside.num ≢ pos 0 = λ e. c.requires (ap (λ (f : Fraction). f.num) (sym c.self.view_is) ∙ e) in
    let made : Fraction = record { num = to_z w128 (of_z w128 c.with_sign_of.result); den = c.unsigned_abs.result } in
    let e : made ≡ reciprocal a = search (rules, reciprocal_is) in
    subst IsLowest (sym e) (IsLowest-reciprocal _ _ c.self.invariant nonzero)

pub returns-clause-value : goal.returns-clause-value
returns-clause-value c = search (rules, reciprocal_is)

pub returns-clause-lowest : goal.returns-clause-lowest
returns-clause-lowest c = invariant_of-result c
