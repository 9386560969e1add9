use Rattle.std.proofs.Common.{◌≡◌, ◌∙◌, sym, ap, rules}
use Rattle.ice_defs.specs.Frac.{gcd}
use Rattle.ice_frac.proofs.Gcd.{gcd_pos, gcd_at_most, gcd_one}
use Rattle.ice_frac.proofs.euclid.common_divisor.Goals as goal

pub returns-then-b-eq1-clause-value : goal.returns-then-b-eq1-clause-value
returns-then-b-eq1-clause-value c = sym (ap (gcd c.args.a) c.if-b-eq1.true ∙ gcd_one c.args.a)

pub returns-then-b-from-clause-positive : goal.returns-then-b-from-clause-positive
returns-then-b-from-clause-positive c h =
    let e : c.from-then-b-from.result ≡ gcd c.args.a c.args.b = search rules in
    rw e (gcd_pos _ _ h)

pub returns-then-b-from-clause-below : goal.returns-then-b-from-clause-below
returns-then-b-from-clause-below c h =
    let e : c.from-then-b-from.result ≡ gcd c.args.a c.args.b = search rules in
    rw e (gcd_at_most _ _ h)

pub returns-clause-positive : goal.returns-clause-positive
returns-clause-positive c h =
    let e : c.long_divisor.result ≡ gcd c.args.a c.args.b = search rules in
    rw e (gcd_pos _ _ h)

pub returns-clause-below : goal.returns-clause-below
returns-clause-below c h =
    let e : c.long_divisor.result ≡ gcd c.args.a c.args.b = search rules in
    rw e (gcd_at_most _ _ h)
