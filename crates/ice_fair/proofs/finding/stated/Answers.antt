use Rattle.std.proofs.Common.{ℕ, ℤ, ◌≡◌, pos, ap, sym, subst, refl, arith, rules, to_z, of_z}
use mir.Syntax.{w64, w128}
use Rattle.std.specs.Prelude.{unsigned_abs}
use Rattle.std.proofs.lemmas.Int.{ints}
use Rattle.ice_turns.specs.Stages.{IsSizedStage}
use Rattle.ice_fair_laws.specs.FairRun.{fairness_at}
use Rattle.ice_fair.specs.Found.{IsFairFound}
use Rattle.ice_fair.specs.Lasts.{trade_of}
use Rattle.ice_fair.proofs.Stating.{payments-are, priced-sized, stage-stop, stage-found}
use Rattle.ice_fair.proofs.finding.stated.Goals as goal

pub run_fair_stage-run-requires-clause-payments : goal.run_fair_stage-run-requires-clause-payments
run_fair_stage-run-requires-clause-payments c =
    payments-are c.args.last.now c.trade-trade.ensures.lawful c.trade-trade.result c.trade-trade.ensures.value c.payments.result.now c.payments.ensures.value c.cut.result c.cut.ensures.value

pub run_fair_stage-run-requires-clause-sized : goal.run_fair_stage-run-requires-clause-sized
run_fair_stage-run-requires-clause-sized c =
    let v : to_z w128 (of_z w128 c.args.pricing.now.delta) ≡ c.args.pricing.now.delta = search rules in
    let same : to_z w64 (of_z w64 c.den-den.result) ≡ pos c.args.pricing.now.prices.den = omega (arith, ints, c.den-den.ensures.den, c.den-den.ensures.limits.den.1) in
    let sized = priced-sized (trade_of c.args.last.now.paid) c.trade-trade.ensures.lawful.trade c.args.pricing.now c.requires c.den-den.ensures.limits in
    subst (λ (z : ℤ). IsSizedStage (fairness_at z (unsigned_abs (to_z w64 (of_z w64 c.den-den.result))))) (sym v)
    (subst (λ (d : ℕ). IsSizedStage (fairness_at c.args.pricing.now.delta d)) (sym (ap unsigned_abs same)) sized)

pub end_of-requires : goal.end_of-requires
end_of-requires c =
    let v : to_z w128 (of_z w128 c.args.pricing.now.delta) ≡ c.args.pricing.now.delta = search rules in
    let same : to_z w64 (of_z w64 c.den-den.result) ≡ pos c.args.pricing.now.prices.den = omega (arith, ints, c.den-den.ensures.den, c.den-den.ensures.limits.den.1) in
    stage-stop c.args.last.now c.trade-trade.ensures.lawful c.trade-trade.result c.trade-trade.ensures.value c.payments.result.now c.payments.ensures.value c.cut.result c.cut.ensures.value
    c.args.pricing.now.delta _ c.args.pricing.now.prices.den _ v (ap unsigned_abs same) c.args.pricing.now c.requires refl refl c.in-Err.stop c.in-Err.ensures.stopped

pub returns-in-Ok-clause-fair : goal.returns-in-Ok-clause-fair
returns-in-Ok-clause-fair c =
    let v : to_z w128 (of_z w128 c.args.pricing.now.delta) ≡ c.args.pricing.now.delta = search rules in
    let same : to_z w64 (of_z w64 c.den-den.result) ≡ pos c.args.pricing.now.prices.den = omega (arith, ints, c.den-den.ensures.den, c.den-den.ensures.limits.den.1) in
    subst (IsFairFound c.args.last.now) (sym c.fair_of.ensures)
    (stage-found c.args.last.now c.trade-trade.ensures.lawful c.trade-trade.result c.trade-trade.ensures.value c.payments.result.now c.payments.ensures.value c.cut.result _ _
    c.args.pricing.now c.in_ok-accuracy.accuracy c.in-Ok.end c.requires c.den-den.ensures.limits c.in_ok-accuracy.ensures v (ap unsigned_abs same) c.in-Ok.ensures.fair)
