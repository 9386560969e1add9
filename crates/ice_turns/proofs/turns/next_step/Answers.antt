use Rattle.std.proofs.Common.{◌≡◌, ◌≤◌, ◌^◌, length, take, sym, subst, rules, to_z, of_z}
use mir.Syntax.{w128}
use mir.Val.{SFits}
use Rattle.std.proofs.lemmas.Int.{to_z-of_z}
use Rattle.ice_defs.specs.Prices.{Prices}
use Rattle.ice_defs.specs.PricingRun.{prices_of}
use Rattle.ice_defs.specs.Rows.{HasCommonDivisor}
use Rattle.ice_pricing.specs.Priced.{HasViolation}
use Rattle.ice_turns.specs.Scans.{AreAllowed}
use Rattle.ice_turns.proofs.turns.next_step.Goals as goal

pub returns-in-Ends-clause-step : goal.returns-in-Ends-clause-step
returns-in-Ends-clause-step c =
    let own : Prices = prices_of (take c.args.trade.now.goods c.args.point.now) in
    let e : c.in-Some.prices ≡ own = c.in-Some.ensures.value in
    let fits : SFits w128 c.in-Ends.violation = search rules in
    let v : to_z w128 (of_z w128 c.in-Ends.violation) ≡ c.in-Ends.violation = to_z-of_z w128 c.in-Ends.violation fits in (
      e,
      subst (λ (p : Prices). p.den ≤ 2 ^ 32) e c.in-Some.ensures.fits,
      subst (λ (p : Prices). ¬ HasCommonDivisor p) e c.in-Some.ensures.lowest,
      subst (λ (p : Prices). AreAllowed c.args.trade.now p c.args.most.now (length c.args.trade.now.trees)) e c.in-Ends.ensures.0,
      subst (HasViolation c.args.trade.now own) (sym v) (subst (λ (p : Prices). HasViolation c.args.trade.now p c.in-Ends.violation) e c.in-Ends.ensures.1),
    )
