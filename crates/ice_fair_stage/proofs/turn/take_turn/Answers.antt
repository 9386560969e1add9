use Rattle.std.proofs.Common.{◌≡◌, ◌≤◌, ◌∙◌, ◌^◌, ap, sym, subst, length, take, List, IfErr, arith, rules, to_z, of_z}
use mir.Syntax.{w128}
use mir.Val.{SFits}
use Rattle.std.proofs.lemmas.Int.{to_z-of_z}
use Rattle.ice_defs.specs.Prices.{Prices, ArePrices}
use Rattle.ice_defs.specs.Fraction.{Fraction}
use Rattle.ice_defs.specs.PricingRun.{prices_of}
use Rattle.ice_defs.specs.Rows.{HasCommonDivisor}
use Rattle.ice_pricing.specs.Priced.{HasViolation}
use Rattle.ice_turns.specs.Steps.{IsStep, IsStepStop}
use Rattle.ice_turns.specs.declared.turns.Step.{Step}
use Rattle.ice_turns.proofs.Stops.{if_ok-map, if_err-map}
use Rattle.std.proofs.lemmas.Int.{ints}
use Rattle.ice_fair_stage.specs.Stages.{FairStage}
use Rattle.ice_fair_stage.proofs.FairTurns.{equal-at, proper-pool, adds, none-left, step-stops, stops, same-weights}
use Rattle.ice_fair_stage.proofs.FairEnds.{ended}
use Rattle.ice_fair_stage.proofs.turn.take_turn.Goals as goal

pub next_step-requires-clause-within : goal.next_step-requires-clause-within
next_step-requires-clause-within c =
    subst (λ (xs : List Fraction). ArePrices c.args.trade.now.goods c.args.trade.now.cap (prices_of (take c.args.trade.now.goods xs))) (sym c.deref.ensures.value) c.in_ok-solution.ensures.solved.within

pub returns-in-Adds-clause-turn : goal.returns-in-Adds-clause-turn
returns-in-Adds-clause-turn c =
    let solved = c.in_ok-solution.ensures.solved in
    let same = ap (λ (xs : List Fraction). prices_of (take c.args.trade.now.goods xs)) c.deref.ensures.value in
    let sized = c.requires.stage.sized in
    let delta : c.at.inside.delta ≡ c.args.at.now.delta = ap (λ (s : FairStage). s.delta) c.at.view_is in
    let same_delta : to_z w128 (of_z w128 c.at.inside.delta) ≡ c.args.at.now.delta = omega (arith, ints, delta, sized.low, sized.high, sized.den_fits) in
    let equal = equal-at c.over-most.result (to_z w128 (of_z w128 c.at.inside.delta)) c.args.at.now.delta c.at.inside.den c.args.at.now.den same_delta (ap (λ (s : FairStage). s.den) c.at.view_is) c.over-most.ensures.equal in
    let is = subst (λ (s : Step). IsStep c.args.trade.now (length c.args.pool.now) (prices_of (take c.args.trade.now.goods c.deref.result.now)) c.over-most.result s) c.in-Adds.is c.in_ok-member.ensures.step in
    adds c.args.trade.now c.args.at.now c.args.pool.now c.in_ok-solution.solution.point.items c.in_ok-solution.solution.duals.items solved (prices_of (take c.args.trade.now.goods c.deref.result.now)) same
    c.over-most.result c.over-most.ensures.proper sized.positive equal c.in-Adds.member is.0 is.1 is.2

pub returns-in_err-member-clause-stopped : goal.returns-in_err-member-clause-stopped
returns-in_err-member-clause-stopped c =
    let solved = c.in_ok-solution.ensures.solved in
    let same = ap (λ (xs : List Fraction). prices_of (take c.args.trade.now.goods xs)) c.deref.ensures.value in
    let sized = c.requires.stage.sized in
    let delta : c.at.inside.delta ≡ c.args.at.now.delta = ap (λ (s : FairStage). s.delta) c.at.view_is in
    let same_delta : to_z w128 (of_z w128 c.at.inside.delta) ≡ c.args.at.now.delta = omega (arith, ints, delta, sized.low, sized.high, sized.den_fits) in
    let equal = equal-at c.over-most.result (to_z w128 (of_z w128 c.at.inside.delta)) c.args.at.now.delta c.at.inside.den c.args.at.now.den same_delta (ap (λ (s : FairStage). s.den) c.at.view_is) c.over-most.ensures.equal in
    let one : IfErr c.from_residual-in_err-member.result (IsStepStop c.args.trade.now (length c.args.pool.now) (prices_of (take c.args.trade.now.goods c.deref.result.now)) c.over-most.result) = search rules in
    if_err-map c.from_residual-in_err-member.result (step-stops c.args.trade.now c.args.at.now c.args.pool.now c.in_ok-solution.solution.point.items c.in_ok-solution.solution.duals.items solved (prices_of (take c.args.trade.now.goods c.deref.result.now)) same
    c.over-most.result c.over-most.ensures.proper sized.positive equal) one

pub end_turn-requires-clause-pool : goal.end_turn-requires-clause-pool
end_turn-requires-clause-pool c = (proper-pool c.args.trade.now c.args.at.now c.args.pool.now c.requires).1

pub returns-clause-stopped : goal.returns-clause-stopped
returns-clause-stopped c =
    let solved = c.in_ok-solution.ensures.solved in
    let same = ap (λ (xs : List Fraction). prices_of (take c.args.trade.now.goods xs)) c.deref.ensures.value in
    let sized = c.requires.stage.sized in
    let delta : c.at.inside.delta ≡ c.args.at.now.delta = ap (λ (s : FairStage). s.delta) c.at.view_is in
    let same_delta : to_z w128 (of_z w128 c.at.inside.delta) ≡ c.args.at.now.delta = omega (arith, ints, delta, sized.low, sized.high, sized.den_fits) in
    let equal = equal-at c.over-most.result (to_z w128 (of_z w128 c.at.inside.delta)) c.args.at.now.delta c.at.inside.den c.args.at.now.den same_delta (ap (λ (s : FairStage). s.den) c.at.view_is) c.over-most.ensures.equal in
    let is = subst (λ (s : Step). IsStep c.args.trade.now (length c.args.pool.now) (prices_of (take c.args.trade.now.goods c.deref.result.now)) c.over-most.result s) c.in-Ends.is c.in_ok-member.ensures.step in
    if_err-map c.end_turn.result (stops c.args.trade.now c.args.at.now c.args.pool.now c.in_ok-solution.solution.point.items c.in_ok-solution.solution.duals.items solved (prices_of (take c.args.trade.now.goods c.deref.result.now)) same
    c.over-most.result c.over-most.ensures.proper sized.positive equal is.3) c.end_turn.ensures.stopped

pub returns-clause-turn : goal.returns-clause-turn
returns-clause-turn c =
    let solved = c.in_ok-solution.ensures.solved in
    let same = ap (λ (xs : List Fraction). prices_of (take c.args.trade.now.goods xs)) c.deref.ensures.value in
    let sized = c.requires.stage.sized in
    let delta : c.at.inside.delta ≡ c.args.at.now.delta = ap (λ (s : FairStage). s.delta) c.at.view_is in
    let same_delta : to_z w128 (of_z w128 c.at.inside.delta) ≡ c.args.at.now.delta = omega (arith, ints, delta, sized.low, sized.high, sized.den_fits) in
    let equal = equal-at c.over-most.result (to_z w128 (of_z w128 c.at.inside.delta)) c.args.at.now.delta c.at.inside.den c.args.at.now.den same_delta (ap (λ (s : FairStage). s.den) c.at.view_is) c.over-most.ensures.equal in
    let is = subst (λ (s : Step). IsStep c.args.trade.now (length c.args.pool.now) (prices_of (take c.args.trade.now.goods c.deref.result.now)) c.over-most.result s) c.in-Ends.is c.in_ok-member.ensures.step in
    let none = none-left c.args.trade.now c.args.at.now c.args.pool.now c.in_ok-solution.solution.point.items c.in_ok-solution.solution.duals.items solved (prices_of (take c.args.trade.now.goods c.deref.result.now)) same
    c.over-most.result c.over-most.ensures.proper sized.positive equal is.3 in
    let weights = same-weights c.args.trade.now c.args.at.now c.args.pool.now c.in_ok-solution.solution.point.items c.in_ok-solution.solution.duals.items solved (prices_of (take c.args.trade.now.goods c.deref.result.now)) same
    c.over-most.result c.over-most.ensures.proper sized.positive equal in
    let fits : SFits w128 c.in-Ends.violation = search rules in
    let v : to_z w128 (of_z w128 c.in-Ends.violation) ≡ c.in-Ends.violation = to_z-of_z w128 c.in-Ends.violation fits in
    let violates : HasViolation c.args.trade.now c.in-Ends.prices (to_z w128 (of_z w128 c.in-Ends.violation)) =
    subst (HasViolation c.args.trade.now c.in-Ends.prices) (sym v) (subst (λ (p : Prices). HasViolation c.args.trade.now p c.in-Ends.violation) (sym is.0) is.4) in
    if_ok-map c.end_turn.result
    (λ made h. ended c.args.trade.now c.args.at.now c.args.pool.now c.in_ok-solution.solution.point.items _ solved.solved none weights c.in-Ends.prices (to_z w128 (of_z w128 c.in-Ends.violation)) made (is.0 ∙ same)
    (subst (λ (p : Prices). p.den ≤ 2 ^ 32) (sym is.0) is.1) (subst (λ (p : Prices). ¬ HasCommonDivisor p) (sym is.0) is.2) violates h) c.end_turn.ensures.ended
