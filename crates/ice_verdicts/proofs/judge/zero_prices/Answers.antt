use Rattle.std.proofs.Common.{◌≡◌, ◌∷◌, ◌++◌, [], ℤ, List, replicate, pos, sym, ◌∙◌, ap, subst, arith}
use Rattle.std.proofs.lemmas.List.{length-replicate}
use Rattle.ice_terms.specs.Terms.{ArePriceTerms}
use Rattle.ice_verdicts.proofs.Zeros.{replicate_push, zero_terms}
use Rattle.ice_verdicts.proofs.judge.zero_prices.Goals as goal

pub push-requires : goal.push-requires
push-requires c = rw (c.loop-good.invariant, length-replicate) (omega arith)

pub loop-good-preserved : goal.loop-good-preserved
loop-good-preserved c = c.push.ensures.items ∙ ap (λ (xs : List ℤ). xs ++ pos 0 ∷ []) c.loop-good.invariant ∙ replicate_push c.loop-good._good (pos 0)

pub from_terms-requires : goal.from_terms-requires
from_terms-requires c =
    let all : c.loop-good._good ≡ c.args.goods = omega arith in
    subst (λ (xs : List ℤ). ArePriceTerms record { den = 1; nums = xs }) (sym (c.loop-good.invariant ∙ ap (λ n. replicate n (pos 0)) all)) (zero_terms c.args.goods c.requires.some c.requires.few)
