use Rattle.std.proofs.Common.{ℤ, ◌≡◌, refl, subst, rules, to_z, of_z}
use mir.Syntax.{w128}
use Rattle.ice_pricing.specs.Provisional.{ProvisionalTrade}
use Rattle.ice_fair.specs.Lasts.{trade_of}
use Rattle.ice_fair.specs.Tested.{PassesPriceTests, PassesNearness}
use Rattle.ice_fair.proofs.Passing.{both-pass, passing-fair}
use Rattle.ice_fair.proofs.finding.Candidate.passes.Goals as goal

pub returns : goal.returns
returns c =
    let read : to_z w128 (of_z w128 c.args.self.now.delta) ≡ c.args.self.now.delta = search rules in
    let there : PassesPriceTests (trade_of c.args.last.now.paid) c.args.self.now.prices (to_z w128 (of_z w128 c.args.self.now.delta)) c.args.accuracy.now =
    subst (λ (t : ProvisionalTrade). PassesPriceTests t c.args.self.now.prices (to_z w128 (of_z w128 c.args.self.now.delta)) c.args.accuracy.now) c.trade-trade.ensures.value
    (c.if-not-are_accurate.ensures.yes refl) in
    let priced : PassesPriceTests (trade_of c.args.last.now.paid) c.args.self.now.prices c.args.self.now.delta c.args.accuracy.now =
    subst (λ (z : ℤ). PassesPriceTests (trade_of c.args.last.now.paid) c.args.self.now.prices z c.args.accuracy.now) read there in
    λ h. let near : PassesNearness c.args.last.now.paid c.args.self.now.prices c.args.self.now.delta c.args.self.now.distance c.args.self.now.certificate =
    subst (λ (z : ℤ). PassesNearness c.args.last.now.paid c.args.self.now.prices z c.args.self.now.distance c.args.self.now.certificate) read (c.are_nearest.ensures.yes h) in
    let all = both-pass c.args.last.now.paid c.args.self.now.prices c.args.self.now.delta c.args.accuracy.now c.args.self.now.distance c.args.self.now.certificate priced near in
    record {
      passes = all;
      fair = passing-fair c.args.last.now.paid c.args.self.now.prices c.args.self.now.delta c.args.accuracy.now c.args.self.now.distance c.args.self.now.certificate c.trade-trade.ensures.lawful.paid all;
      goods = c.requires.goods;
      accuracy_limited = c.requires.accuracy;
      certificate_limited = search rules;
    }
