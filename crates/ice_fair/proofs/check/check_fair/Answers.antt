use Rattle.std.proofs.Common.{ℤ, ◌≡◌, refl, subst, rules, to_z, of_z}
use mir.Syntax.{w128}
use Rattle.ice_pricing.specs.Provisional.{ProvisionalTrade}
use Rattle.ice_fair.specs.Lasts.{trade_of}
use Rattle.ice_fair.specs.Tested.{PassesPriceTests, PassesNearness}
use Rattle.ice_fair.proofs.Passing.{both-pass, passing-fair}
use Rattle.ice_fair.proofs.check.check_fair.Goals as goal

pub returns-clause-yes : goal.returns-clause-yes
returns-clause-yes c =
    let read : to_z w128 (of_z w128 c.args.fair.now.delta) ≡ c.args.fair.now.delta = search rules in
    let there : PassesPriceTests (trade_of c.args.last.now.paid) c.args.fair.now.prices (to_z w128 (of_z w128 c.args.fair.now.delta)) c.args.fair.now.accuracy =
    subst (λ (t : ProvisionalTrade). PassesPriceTests t c.args.fair.now.prices (to_z w128 (of_z w128 c.args.fair.now.delta)) c.args.fair.now.accuracy) c.trade-trade.ensures.value
    (c.if-not-are_accurate.ensures.yes refl) in
    let priced : PassesPriceTests (trade_of c.args.last.now.paid) c.args.fair.now.prices c.args.fair.now.delta c.args.fair.now.accuracy =
    subst (λ (z : ℤ). PassesPriceTests (trade_of c.args.last.now.paid) c.args.fair.now.prices z c.args.fair.now.accuracy) read there in
    λ h. let near : PassesNearness c.args.last.now.paid c.args.fair.now.prices c.args.fair.now.delta c.args.fair.now.distance c.args.fair.now.certificate =
    subst (λ (z : ℤ). PassesNearness c.args.last.now.paid c.args.fair.now.prices z c.args.fair.now.distance c.args.fair.now.certificate) read (c.are_nearest.ensures.yes h) in
    both-pass c.args.last.now.paid c.args.fair.now.prices c.args.fair.now.delta c.args.fair.now.accuracy c.args.fair.now.distance c.args.fair.now.certificate priced near

pub returns-clause-fair : goal.returns-clause-fair
returns-clause-fair c = λ h.
    passing-fair c.args.last.now.paid c.args.fair.now.prices c.args.fair.now.delta c.args.fair.now.accuracy c.args.fair.now.distance c.args.fair.now.certificate c.trade-trade.ensures.lawful.paid (returns-clause-yes c h)
