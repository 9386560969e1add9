use Rattle.std.proofs.Common.{◌≡◌, length, sym, subst, ◌∙◌, rules, to_z, of_z}
use Rattle.std.proofs.lemmas.Bool.{false≢true}
use Rattle.std.proofs.lemmas.Int.{to_z-of_z}
use mir.Syntax.{w64}
use mir.Val.{SFits}
use Rattle.ice_defs.specs.Prices.{ArePrices}
use Rattle.ice_pricing.proofs.Deciding.{unlawful_by_divisor, unlawful_by_cap}
use Rattle.ice_pricing.proofs.lawful.are_lawful.Goals as goal

pub returns-then-are_within-clause-no : goal.returns-then-are_within-clause-no
returns-then-are_within-clause-no c = λ other.
    unlawful_by_divisor c.args.cap c.args.prices.now c.nums-nums.ensures.limits (λ none. false≢true (sym other ∙ c.are_lowest.ensures.no none))

pub returns-else-are_within-clause-no : goal.returns-else-are_within-clause-no
returns-else-are_within-clause-no c = λ other.
    let fits : SFits w64 c.args.cap = search rules in
    let back : to_z w64 (of_z w64 c.args.cap) ≡ c.args.cap = to_z-of_z w64 c.args.cap fits in
    unlawful_by_cap c.args.cap c.args.prices.now c.nums-nums.ensures.limits
    (λ are. false≢true (sym c.if-are_within.false ∙ c.are_within.ensures.no (subst (λ z. ArePrices (length c.args.prices.now.nums) z c.args.prices.now) (sym back) are)))
