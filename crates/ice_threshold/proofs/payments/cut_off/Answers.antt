use Rattle.std.proofs.Common.{◌≡◌, arith, rules, pos, ◌*ℤ◌}
use Rattle.std.proofs.lemmas.Int.{ints, clamps}
use Rattle.ice_frac.proofs.Ring.{scale_le}
use Rattle.ice_threshold.proofs.payments.cut_off.Goals as goal

pub returns-then-left-lt0-clause-value : goal.returns-then-left-lt0-clause-value
returns-then-left-lt0-clause-value c =
    let product : c.scaled.result ≡ c.args.vickrey *ℤ pos c.args.den = search rules in
    omega (arith, ints, clamps)

pub returns-else-left-lt0-clause-value : goal.returns-else-left-lt0-clause-value
returns-else-left-lt0-clause-value c =
    let product : c.scaled.result ≡ c.args.vickrey *ℤ pos c.args.den = search rules in
    omega (arith, ints, clamps)

pub returns-else-left-lt0-clause-high : goal.returns-else-left-lt0-clause-high
returns-else-left-lt0-clause-high c =
    let product : c.scaled.result ≡ c.args.vickrey *ℤ pos c.args.den = search rules in
    omega (arith, ints, scale_le c.args.den _ _ c.requires.limited.high)
