use Rattle.std.proofs.Common.{◌≡◌, ◌≤◌, ℕ, subst, sym, rules, unsigned_abs}
use Rattle.std.proofs.Math.Nat.{div-le_self}
use Rattle.ice_defs.specs.Fraction.{Fraction}
use Rattle.ice_defs.specs.Frac.{gcd, lowest}
use Rattle.ice_frac.proofs.Lowest.{unsigned_abs-int_div}
use Rattle.ice_threshold.proofs.ratio.fraction.Goals as goal

pub returns-clause-num_high : goal.returns-clause-num_high
returns-clause-num_high c =
    let is : c.in-Some.fraction ≡ lowest c.args.num c.args.den = search rules in
    let g : ℕ = gcd (unsigned_abs c.args.num) c.args.den in
    subst (λ (f : Fraction). unsigned_abs f.num ≤ unsigned_abs c.args.num) (sym is)
    (subst (λ (n : ℕ). n ≤ unsigned_abs c.args.num) (sym (unsigned_abs-int_div c.args.num g)) (div-le_self (unsigned_abs c.args.num) g))

pub returns-clause-den_high : goal.returns-clause-den_high
returns-clause-den_high c =
    let is : c.in-Some.fraction ≡ lowest c.args.num c.args.den = search rules in
    subst (λ (f : Fraction). f.den ≤ c.args.den) (sym is) (div-le_self c.args.den (gcd (unsigned_abs c.args.num) c.args.den))
