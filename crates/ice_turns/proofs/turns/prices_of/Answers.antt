use Rattle.std.proofs.Common.{ℕ, ◌≡◌, ◌∙◌, ap, rules, sym, subst, map, take, List}
use Rattle.ice_defs.specs.Prices.{Prices, ArePrices}
use Rattle.ice_defs.specs.Fraction.{Fraction}
use Rattle.ice_defs.specs.Rows.{HasCommonDivisor}
use Rattle.ice_defs.specs.PricingRun.{common_den, num_over, prices_of}
use Rattle.ice_turns.proofs.Points.{nums-high, lowest-reduced}
use Rattle.ice_turns.proofs.turns.prices_of.Goals as goal

pub prices_over-requires-clause-high : goal.prices_over-requires-clause-high
prices_over-requires-clause-high c =
    let size : c.from.result ≡ c.args.trade.now.goods = search rules in
    let P : ℕ → Type 0 = λ n. ArePrices c.args.trade.now.goods c.args.trade.now.cap (prices_of (take n c.args.point.now)) in
    let own = subst P (sym size) c.requires.within in
    let e : c.in_ok-den.den ≡ common_den (take c.from.result c.args.point.now) = search rules in
    let Q : ℕ → Type 0 = λ d. ArePrices c.args.trade.now.goods c.args.trade.now.cap (record { den = d; nums = map (num_over d) (take c.from.result c.args.point.now) }) in
    let within = subst Q (sym e) own in
    nums-high (take c.from.result c.args.point.now) c.args.trade.now.goods c.in_ok-den.den c.args.trade.now.cap within c.in_ok-den.ensures.fits c.goods.ensures.proper.cap_high

pub returns-clause-lowest : goal.returns-clause-lowest
returns-clause-lowest c =
    let fs : List Fraction = take c.from.result c.args.point.now in
    let e : c.in_ok-den.den ≡ common_den (take c.from.result c.args.point.now) = search rules in
    let made : c.prices_over.result ≡ record { den = c.in_ok-den.den; nums = map (num_over c.in_ok-den.den) (take c.from.result c.args.point.now) } = search rules in
    subst (λ (p : Prices). ¬ HasCommonDivisor p) (sym (made ∙ ap (λ d. record { den = d; nums = map (num_over d) fs }) e)) (lowest-reduced fs c.in_ok-den.ensures.lowest)
