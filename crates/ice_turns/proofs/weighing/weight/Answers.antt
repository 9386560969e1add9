use Rattle.std.proofs.Common.{◌≡◌, ◌∙◌, ap, sym, pos, None, arith}
use Rattle.ice_defs.specs.Fraction.{Fraction, whole_number, times}
use Rattle.ice_defs.specs.Frac.{mul}
use Rattle.ice_frac.proofs.Lowest.{positive-lowest}
use Rattle.ice_pricing_laws.specs.Weights.{lowest_of}
use Rattle.ice_pricing_laws.proofs.Lowered.{multiple-low}
use Rattle.ice_turns.proofs.LargeWeights.{none-large}
use Rattle.ice_turns.proofs.weighing.weight.Goals as goal

pub returns-in-Err-clause-none : goal.returns-in-Err-clause-none
returns-in-Err-clause-none c =
    let product : Fraction = times (whole_number (pos c.args.factor)) c.args.dual.now in
    let none : mul (whole_number (pos c.args.factor)) c.args.dual.now ≡ None = sym (c.in-Err.ensures.exact ∙ ap (λ f. mul f c.args.dual.now) c.factor_of.ensures) in
    none-large c.args.most (lowest_of product) c.requires.most (positive-lowest product.num product.den (omega (arith, c.requires.proper))) (multiple-low c.args.factor c.args.dual.now c.requires.proper c.requires.low) none
