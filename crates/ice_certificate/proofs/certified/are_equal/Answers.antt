use Rattle.std.proofs.Common.{rules}
use Rattle.ice_defs.specs.Fraction.{Equals, IsFraction}
use Rattle.ice_certificate.proofs.Equality.{equal_is, is_equal, not_equal}
use Rattle.ice_certificate.proofs.certified.are_equal.Goals as goal

pub returns-in-Equal-clause-yes : goal.returns-in-Equal-clause-yes
returns-in-Equal-clause-yes c =
    let one : Equals c.in-Some.one (record { num = c.args.num; den = c.args.den }) = search rules in
    let other : Equals c.in-Some-new.other (record { num = c.args.other_num; den = c.args.other_den }) = search rules in
    let positive : IsFraction c.in-Some.one = c.in-Some.ensures.lowest.positive in
    let other_positive : IsFraction c.in-Some-new.other = c.in-Some-new.ensures.lowest.positive in
    let same : Equals c.in-Some.one c.in-Some-new.other = c.in-Equal.ensures.ranked in
    λ _. equal_is c.in-Some.one c.in-Some-new.other c.args.num c.args.other_num c.args.den c.args.other_den positive other_positive one other same

pub returns-in-Less-clause-no : goal.returns-in-Less-clause-no
returns-in-Less-clause-no c =
    let one : Equals c.in-Some.one (record { num = c.args.num; den = c.args.den }) = search rules in
    let other : Equals c.in-Some-new.other (record { num = c.args.other_num; den = c.args.other_den }) = search rules in
    λ same. absurd (not_equal c.cmp.result c.in-Some.one c.in-Some-new.other c.in-Less.is c.cmp.ensures.ranked
    (is_equal c.in-Some.one c.in-Some-new.other c.args.num c.args.other_num c.args.den c.args.other_den c.requires.den c.requires.other_den one other same))
