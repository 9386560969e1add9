use Rattle.std.proofs.Common.{◌≡◌, sym, subst, rules, unsigned_abs}
use Rattle.ice_defs.specs.Fraction.{Fraction, Equals}
use Rattle.ice_defs.specs.Frac.{lowest}
use Rattle.ice_frac.proofs.Lowest.{Equals-lowest}
use Rattle.ice_frac.proofs.fraction.Frac.new.Goals as goal

pub returns-clause-equal : goal.returns-clause-equal
returns-clause-equal c =
    let e : c.reduce.result ≡ lowest c.args.num (unsigned_abs c.args.den) = search rules in
    subst (λ (f : Fraction). Equals f (record { num = c.args.num; den = unsigned_abs c.args.den })) (sym e) (Equals-lowest c.args.num (unsigned_abs c.args.den))
