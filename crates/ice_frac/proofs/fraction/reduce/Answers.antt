use Rattle.std.proofs.Common.{◌≡◌, sym, subst, rules, to_z, of_z}
use mir.Syntax.{w128}
use Rattle.ice_defs.specs.Fraction.{Fraction}
use Rattle.ice_defs.specs.Frac.{lowest}
use Rattle.ice_frac.specs.Lowest.{IsLowest}
use Rattle.ice_frac.proofs.Lowest.{IsLowest-lowest}
use Rattle.ice_frac.proofs.fraction.reduce.Goals as goal

pub invariant_of-result : goal.invariant_of-result
invariant_of-result c =
    let made : Fraction = record { num = to_z w128 (of_z w128 c.quotient.result); den = c.size_quotient.result } in
    let e : made ≡ lowest c.args.num c.args.den = search rules in
    subst IsLowest (sym e) (IsLowest-lowest c.args.num c.args.den c.requires.sized c.requires.positive c.requires.below)

pub returns-clause-lowest : goal.returns-clause-lowest
returns-clause-lowest c = invariant_of-result c
