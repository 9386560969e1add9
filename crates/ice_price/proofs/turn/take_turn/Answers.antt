use Rattle.std.proofs.Common.{ℕ, ◌≡◌, ◌<◌, ◌≤◌, ◌∙◌, ◌^◌, ap, sym, subst, length, drop, take, List, pos, slice_index_or, IfErr, arith, rules, to_z, of_z}
use mir.Syntax.{w128}
use mir.Val.{SFits}
use Rattle.std.proofs.lemmas.Int.{to_z-of_z}
use Rattle.std.proofs.lemmas.List.{get_or_read, length-drop}
use Rattle.ice_defs.specs.Prices.{Prices, ArePrices}
use Rattle.ice_defs.specs.Program.{AreNonNegative}
use Rattle.ice_defs.specs.Fraction.{Fraction, whole_number, fraction_at}
use Rattle.ice_defs.specs.PricingRun.{prices_of}
use Rattle.ice_defs.specs.Rows.{HasCommonDivisor}
use Rattle.ice_pricing_laws.specs.Weights.{weights_of_duals}
use Rattle.ice_pricing_laws.proofs.Pools.{run_pool_is_proper}
use Rattle.ice_pricing.specs.Priced.{HasViolation}
use Rattle.ice_turns.specs.Large.{AreLarge, IsStoppedBy}
use Rattle.ice_turns.specs.Steps.{IsStep, IsStepStop}
use Rattle.ice_turns.specs.declared.turns.Step.{Step}
use Rattle.ice_turns.proofs.Points.{low-drop}
use Rattle.ice_turns.proofs.Stops.{if_ok-map, if_err-map}
use Rattle.ice_price.specs.Runs.{IsEndWith}
use Rattle.ice_price.specs.Programs.{dual_factor}
use Rattle.ice_price.proofs.TurnEnds.{adds, none-left, step-stops, stops, end-turn}
use Rattle.ice_price.proofs.turn.take_turn.Goals as goal

last-read : (xs : List Fraction) (place goods : ℕ) (last : Fraction) → place ≡ goods → place < length xs → last ≡ slice_index_or xs place last → last ≡ fraction_at xs goods
last-read xs place goods last e h is = get_or_read xs place last h is (whole_number (pos 0)) ∙ ap (fraction_at xs) e

weights-same : (k factor place goods : ℕ) (own ys items : List Fraction) → k ≡ factor → own ≡ drop place ys → place ≡ goods → ys ≡ items → weights_of_duals k own ≡ weights_of_duals factor (drop goods items)
weights-same k factor place goods own ys items e d f g = ap (λ j. weights_of_duals j own) e ∙ ap (weights_of_duals factor) (d ∙ ap (λ j. drop j ys) f ∙ ap (drop goods) g)

pub next_step-requires-clause-within : goal.next_step-requires-clause-within
next_step-requires-clause-within c =
    subst (λ (xs : List Fraction). ArePrices c.args.trade.now.goods c.args.trade.now.cap (prices_of (take c.args.trade.now.goods xs))) (sym c.deref.ensures.value) c.in_ok-solution.ensures.solved.within

pub returns-in-Adds-clause-turn : goal.returns-in-Adds-clause-turn
returns-in-Adds-clause-turn c =
    let solved = c.in_ok-solution.ensures.solved in
    let same = ap (λ (xs : List Fraction). prices_of (take c.args.trade.now.goods xs)) c.deref.ensures.value in
    let size : c.from-goods.result ≡ c.args.trade.now.goods = c.from-goods.ensures ∙ c.goods.ensures.value in
    let read : c.index.result.now ≡ fraction_at c.in_ok-solution.solution.point.items c.args.trade.now.goods =
    last-read c.in_ok-solution.solution.point.items c.from-goods.result c.args.trade.now.goods c.index.result.now size (omega (arith, size, solved.long)) c.index.ensures in
    let is = subst (λ (s : Step). IsStep c.args.trade.now (length c.args.pool.now) (prices_of (take c.args.trade.now.goods c.deref.result.now)) c.allowed-most.result s) c.in-Adds.is c.in_ok-member.ensures.step in
    adds c.args.trade.now c.args.at.now c.args.pool.now c.in_ok-solution.solution.point.items c.in_ok-solution.solution.duals.items solved (prices_of (take c.args.trade.now.goods c.deref.result.now)) same
    c.allowed-most.result c.index.result.now read c.allowed-most.ensures.proper c.allowed-most.ensures.own c.allowed-most.ensures.equal c.in-Adds.member is.0 is.1 is.2

pub returns-in_err-member-clause-stopped : goal.returns-in_err-member-clause-stopped
returns-in_err-member-clause-stopped c =
    let solved = c.in_ok-solution.ensures.solved in
    let same = ap (λ (xs : List Fraction). prices_of (take c.args.trade.now.goods xs)) c.deref.ensures.value in
    let size : c.from-goods.result ≡ c.args.trade.now.goods = c.from-goods.ensures ∙ c.goods.ensures.value in
    let read : c.index.result.now ≡ fraction_at c.in_ok-solution.solution.point.items c.args.trade.now.goods =
    last-read c.in_ok-solution.solution.point.items c.from-goods.result c.args.trade.now.goods c.index.result.now size (omega (arith, size, solved.long)) c.index.ensures in
    let one : IfErr c.from_residual-in_err-member.result (IsStepStop c.args.trade.now (length c.args.pool.now) (prices_of (take c.args.trade.now.goods c.deref.result.now)) c.allowed-most.result) = search rules in
    if_err-map c.from_residual-in_err-member.result (step-stops c.args.trade.now c.args.at.now c.args.pool.now c.in_ok-solution.solution.point.items c.in_ok-solution.solution.duals.items solved (prices_of (take c.args.trade.now.goods c.deref.result.now)) same
    c.allowed-most.result c.index.result.now read c.allowed-most.ensures.proper c.allowed-most.ensures.own c.allowed-most.ensures.equal) one

pub returns-clause-stopped : goal.returns-clause-stopped
returns-clause-stopped c =
    let solved = c.in_ok-solution.ensures.solved in
    let same = ap (λ (xs : List Fraction). prices_of (take c.args.trade.now.goods xs)) c.deref.ensures.value in
    let size : c.from-goods.result ≡ c.args.trade.now.goods = c.from-goods.ensures ∙ c.goods.ensures.value in
    let read : c.index.result.now ≡ fraction_at c.in_ok-solution.solution.point.items c.args.trade.now.goods =
    last-read c.in_ok-solution.solution.point.items c.from-goods.result c.args.trade.now.goods c.index.result.now size (omega (arith, size, solved.long)) c.index.ensures in
    let W : weights_of_duals c.weight_factor.result c.member_duals.result.now ≡ weights_of_duals (dual_factor c.args.at.now.stage c.args.at.now.den) (drop c.args.trade.now.goods c.in_ok-solution.solution.duals.items) =
    weights-same c.weight_factor.result (dual_factor c.args.at.now.stage c.args.at.now.den) c.from-goods.result c.args.trade.now.goods c.member_duals.result.now c.deref-in-Ends.result.now c.in_ok-solution.solution.duals.items
    c.weight_factor.ensures.value c.member_duals.ensures size c.deref-in-Ends.ensures.value in
    let is = subst (λ (s : Step). IsStep c.args.trade.now (length c.args.pool.now) (prices_of (take c.args.trade.now.goods c.deref.result.now)) c.allowed-most.result s) c.in-Ends.is c.in_ok-member.ensures.step in
    if_err-map c.end_stage.result
    (λ stop h. stops c.args.trade.now c.args.at.now c.args.pool.now c.in_ok-solution.solution.point.items c.in_ok-solution.solution.duals.items solved (prices_of (take c.args.trade.now.goods c.deref.result.now)) same
    c.allowed-most.result c.index.result.now read c.allowed-most.ensures.proper c.allowed-most.ensures.own c.allowed-most.ensures.equal is.3 stop
    (subst (λ (ws : List Fraction). IsStoppedBy (AreLarge (2 ^ 32) ws) stop) W h)) c.end_stage.ensures.stopped

pub returns-clause-turn : goal.returns-clause-turn
returns-clause-turn c =
    let solved = c.in_ok-solution.ensures.solved in
    let same = ap (λ (xs : List Fraction). prices_of (take c.args.trade.now.goods xs)) c.deref.ensures.value in
    let size : c.from-goods.result ≡ c.args.trade.now.goods = c.from-goods.ensures ∙ c.goods.ensures.value in
    let read : c.index.result.now ≡ fraction_at c.in_ok-solution.solution.point.items c.args.trade.now.goods =
    last-read c.in_ok-solution.solution.point.items c.from-goods.result c.args.trade.now.goods c.index.result.now size (omega (arith, size, solved.long)) c.index.ensures in
    let W : weights_of_duals c.weight_factor.result c.member_duals.result.now ≡ weights_of_duals (dual_factor c.args.at.now.stage c.args.at.now.den) (drop c.args.trade.now.goods c.in_ok-solution.solution.duals.items) =
    weights-same c.weight_factor.result (dual_factor c.args.at.now.stage c.args.at.now.den) c.from-goods.result c.args.trade.now.goods c.member_duals.result.now c.deref-in-Ends.result.now c.in_ok-solution.solution.duals.items
    c.weight_factor.ensures.value c.member_duals.ensures size c.deref-in-Ends.ensures.value in
    let is = subst (λ (s : Step). IsStep c.args.trade.now (length c.args.pool.now) (prices_of (take c.args.trade.now.goods c.deref.result.now)) c.allowed-most.result s) c.in-Ends.is c.in_ok-member.ensures.step in
    let none = none-left c.args.trade.now c.args.at.now c.args.pool.now c.in_ok-solution.solution.point.items c.in_ok-solution.solution.duals.items solved (prices_of (take c.args.trade.now.goods c.deref.result.now)) same
    c.allowed-most.result c.index.result.now read c.allowed-most.ensures.proper c.allowed-most.ensures.own c.allowed-most.ensures.equal is.3 in
    let fits : SFits w128 c.in-Ends.violation = search rules in
    let v : to_z w128 (of_z w128 c.in-Ends.violation) ≡ c.in-Ends.violation = to_z-of_z w128 c.in-Ends.violation fits in
    let violates : HasViolation c.args.trade.now c.in-Ends.prices (to_z w128 (of_z w128 c.in-Ends.violation)) =
    subst (HasViolation c.args.trade.now c.in-Ends.prices) (sym v) (subst (λ (p : Prices). HasViolation c.args.trade.now p c.in-Ends.violation) (sym is.0) is.4) in
    if_ok-map c.end_stage.result
    (λ made h. end-turn c.args.trade.now c.args.at.now c.args.pool.now c.in_ok-solution.solution.point.items c.in_ok-solution.solution.duals.items solved c.in-Ends.prices (to_z w128 (of_z w128 c.in-Ends.violation)) made (is.0 ∙ same)
    (subst (λ (p : Prices). p.den ≤ 2 ^ 32) (sym is.0) is.1) (subst (λ (p : Prices). ¬ HasCommonDivisor p) (sym is.0) is.2) none violates
    (subst (λ (ws : List Fraction). IsEndWith c.args.pool.now ws c.in-Ends.prices (to_z w128 (of_z w128 c.in-Ends.violation)) made) W h)) c.end_stage.ensures.ended

pub end_stage-requires-clause-pool : goal.end_stage-requires-clause-pool
end_stage-requires-clause-pool c =
    (run_pool_is_proper c.args.trade.now.trees c.args.trade.now.weights c.args.trade.now.sets c.args.trade.now.goods c.args.trade.now.cap c.args.at.now c.args.pool.now c.requires).1

pub end_stage-requires-clause-same_length : goal.end_stage-requires-clause-same_length
end_stage-requires-clause-same_length c =
    let solved = c.in_ok-solution.ensures.solved in
    let size : c.from-goods.result ≡ c.args.trade.now.goods = c.from-goods.ensures ∙ c.goods.ensures.value in
    omega (
      arith,
      ap length c.member_duals.ensures,
      length-drop c.from-goods.result c.deref-in-Ends.result.now,
      ap length c.deref-in-Ends.ensures.value,
      size,
      solved.duals_long,
    )

pub end_stage-requires-clause-low : goal.end_stage-requires-clause-low
end_stage-requires-clause-low c =
    let solved = c.in_ok-solution.ensures.solved in
    subst AreNonNegative (sym c.member_duals.ensures) (low-drop c.from-goods.result c.deref-in-Ends.result.now (subst AreNonNegative (sym c.deref-in-Ends.ensures.value) solved.duals_low))
