use Rattle.std.proofs.Common.{◌≡◌, true, false, ap, sym, subst, ◌∙◌, rules, Some, None, to_z, of_z}
use mir.Syntax.{w128}
use Rattle.std.specs.Result.{result_ok}
use Rattle.ice_defs.specs.Fraction.{Fraction, Equals, times}
use Rattle.ice_defs.specs.Frac.{num_fits, den_fits}
use Rattle.ice_frac.specs.Lowest.{IsLowest}
use Rattle.ice_frac.proofs.Lowest.{crossed_product, mul_is, mul_none_by_num, mul_none_by_den, IsLowest-product, Equals-product}
use Rattle.ice_frac.proofs.fraction.Frac.mul.Goals as goal

pub returns-in_err-num-clause-exact : goal.returns-in_err-num-clause-exact
returns-in_err-num-clause-exact c =
    let a : IsLowest c.args.self.now = subst IsLowest c.self.view_is c.self.invariant in
    let b : IsLowest c.args.other.now = subst IsLowest c.other.view_is c.other.invariant in
    let wide : num_fits (crossed_product c.args.self.now c.args.other.now).num ≡ false = search rules in
    let e : result_ok c.from_residual.result ≡ None = search rules in
    e ∙ sym (mul_none_by_num _ _ a b wide)

pub returns-in_err-den-clause-exact : goal.returns-in_err-den-clause-exact
returns-in_err-den-clause-exact c =
    let a : IsLowest c.args.self.now = subst IsLowest c.self.view_is c.self.invariant in
    let b : IsLowest c.args.other.now = subst IsLowest c.other.view_is c.other.invariant in
    let wide : den_fits (crossed_product c.args.self.now c.args.other.now).den ≡ false = search rules in
    let e : result_ok c.from_residual-in_err-den.result ≡ None = search rules in
    e ∙ sym (mul_none_by_den _ _ a b wide)

pub invariant_of-result : goal.invariant_of-result
invariant_of-result c =
    let a : IsLowest c.args.self.now = subst IsLowest c.self.view_is c.self.invariant in
    let b : IsLowest c.args.other.now = subst IsLowest c.other.view_is c.other.invariant in
    let made : Fraction = record { num = to_z w128 (of_z w128 c.in_ok-num.num); den = c.in_ok-den.den } in
    let e : made ≡ crossed_product c.args.self.now c.args.other.now = search rules in
    let fits_num : num_fits (crossed_product c.args.self.now c.args.other.now).num ≡ true = search rules in
    let fits_den : den_fits (crossed_product c.args.self.now c.args.other.now).den ≡ true = search rules in
    subst IsLowest (sym e) (IsLowest-product _ _ a b fits_num fits_den)

pub returns-clause-exact : goal.returns-clause-exact
returns-clause-exact c =
    let a : IsLowest c.args.self.now = subst IsLowest c.self.view_is c.self.invariant in
    let b : IsLowest c.args.other.now = subst IsLowest c.other.view_is c.other.invariant in
    let made : Fraction = record { num = to_z w128 (of_z w128 c.in_ok-num.num); den = c.in_ok-den.den } in
    let e : made ≡ crossed_product c.args.self.now c.args.other.now = search rules in
    let fits_num : num_fits (crossed_product c.args.self.now c.args.other.now).num ≡ true = search rules in
    let fits_den : den_fits (crossed_product c.args.self.now c.args.other.now).den ≡ true = search rules in
    ap (λ (f : Fraction). Some f) e ∙ sym (mul_is _ _ a b fits_num fits_den)

pub returns-clause-equal : goal.returns-clause-equal
returns-clause-equal c =
    let a : IsLowest c.args.self.now = subst IsLowest c.self.view_is c.self.invariant in
    let b : IsLowest c.args.other.now = subst IsLowest c.other.view_is c.other.invariant in
    let made : Fraction = record { num = to_z w128 (of_z w128 c.in_ok-num.num); den = c.in_ok-den.den } in
    let e : made ≡ crossed_product c.args.self.now c.args.other.now = search rules in
    subst (λ (f : Fraction). Equals f (times c.args.self.now c.args.other.now)) (sym e) (Equals-product _ _ a b)

pub returns-clause-lowest : goal.returns-clause-lowest
returns-clause-lowest c = invariant_of-result c
