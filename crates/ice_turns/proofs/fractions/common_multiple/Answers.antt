use Rattle.std.proofs.Common.{ℕ, ◌≡◌, ◌∙◌, ◌*◌, ◌/◌, ap, arith, rules}
use Rattle.ice_defs.specs.Frac.{gcd}
use Rattle.ice_defs.specs.PricingRun.{lcm}
use Rattle.ice_pricing_laws.proofs.Dens.{lcm-pos}
use Rattle.ice_turns.proofs.Multiples.{lcm-turned, lcm-left}
use Rattle.ice_turns.proofs.fractions.common_multiple.Goals as goal

made : (f a b g : ℕ) → f ≡ b → g ≡ gcd a b → (x : ℕ) → x ≡ a → (x / g) * f ≡ lcm a b
made f a b g ef eg x ex = ap (λ y. (x / g) * y) ef ∙ ap (λ y. (x / y) * b) eg ∙ ap (λ y. (y / gcd a b) * b) ex ∙ lcm-turned a b

pub returns-then-den-from-clause-none : goal.returns-then-den-from-clause-none
returns-then-den-from-clause-none c =
    omega (arith, lcm-left c.args.fraction.now.den c.args.den c.den.ensures.lowest.positive c.requires.positive, c.den.ensures.value, c.if-den-from.true, c.from.ensures)

pub returns-then-multiple-from-clause-none : goal.returns-then-multiple-from-clause-none
returns-then-multiple-from-clause-none c =
    let g : c.common_divisor.result ≡ gcd c.args.fraction.now.den c.args.den = search rules in
    let e : (c.den-2.result / c.common_divisor.result) * c.from-other.result ≡ lcm c.args.fraction.now.den c.args.den =
    made c.from-other.result c.args.fraction.now.den c.args.den c.common_divisor.result c.from-other.ensures g c.den-2.result c.den-2.ensures.value in
    omega (arith, e, c.if-multiple-from.true, c.from-2.ensures)

pub returns-clause-value : goal.returns-clause-value
returns-clause-value c =
    let g : c.common_divisor.result ≡ gcd c.args.fraction.now.den c.args.den = search rules in
    made c.from-other.result c.args.fraction.now.den c.args.den c.common_divisor.result c.from-other.ensures g c.den-2.result c.den-2.ensures.value

pub returns-clause-positive : goal.returns-clause-positive
returns-clause-positive c =
    omega (arith, returns-clause-value c, lcm-pos c.args.fraction.now.den c.args.den c.den.ensures.lowest.positive c.requires.positive)
