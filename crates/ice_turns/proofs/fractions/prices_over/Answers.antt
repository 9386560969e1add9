use Rattle.std.proofs.Common.{◌≡◌, ◌∙◌, ap, sym, subst, arith, map, List, ℤ, take}
use Rattle.std.proofs.lemmas.List.{take_all}
use Rattle.ice_defs.specs.PricingRun.{num_over}
use Rattle.ice_terms.specs.Terms.{ArePriceTerms}
use Rattle.ice_turns.proofs.Points.{terms-of}
use Rattle.ice_turns.proofs.fractions.prices_over.Goals as goal

pub from_terms-requires : goal.from_terms-requires
from_terms-requires c =
    let whole : take c.loop-fraction.fraction-index c.args.fractions.now ≡ c.args.fractions.now = take_all c.loop-fraction.fraction-index c.args.fractions.now (omega (arith, c.loop-fraction-test.false)) in
    let nums : c.loop-fraction.nums.items ≡ map (num_over c.args.den) c.args.fractions.now = c.loop-fraction.invariant.value ∙ ap (map (num_over c.args.den)) whole in
    subst (λ (ns : List ℤ). ArePriceTerms (record { den = c.args.den; nums = ns })) (sym nums) (terms-of c.args.fractions.now c.args.den c.requires.positive c.requires.fits c.requires.some c.requires.few c.requires.low c.requires.high)
