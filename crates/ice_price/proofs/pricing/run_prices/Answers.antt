use Rattle.std.proofs.Common.{ℕ, ◌≡◌, ◌∙◌, List, ℤ, pos, ap, sym, subst, arith, rules, to_z, of_z}
use mir.Syntax.{w64, w128}
use mir.Val.{SFits}
use Rattle.std.specs.Prelude.{unsigned_abs}
use Rattle.std.proofs.lemmas.Int.{ints, to_z-of_z}
use Rattle.ice_defs.specs.PricingRun.{Member, StageAt, first_stage, starts}
use Rattle.ice_pricing_laws.specs.Laws.{balance_at}
use Rattle.ice_price.specs.Runs.{IsState, IsRunFrom, IsStageEnd}
use Rattle.ice_turns.specs.Stages.{IsSizedStage}
use Rattle.ice_price.proofs.Deltas.{violation-sized}
use Rattle.ice_turns.proofs.Works.{more-trans, two-turns}
use Rattle.ice_price.proofs.Finishing.{turned, priced}
use Rattle.ice_price.proofs.pricing.run_prices.Goals as goal

pub run_stage-requires : goal.run_stage-requires
run_stage-requires c =
    subst (λ (at : StageAt). IsState c.args.trade.now at c.new-pool.result.items) (sym c.accuracy-first.ensures)
    (subst (λ (pool : List Member). IsState c.args.trade.now first_stage pool) (sym c.new-pool.ensures.items) starts)

pub balance-second-requires : goal.balance-second-requires
balance-second-requires c =
    let fits : SFits w128 c.in-Ok.end.violation = search rules in
    let v : to_z w128 (of_z w128 c.in-Ok.end.violation) ≡ c.in-Ok.end.violation = to_z-of_z w128 c.in-Ok.end.violation fits in
    let same : to_z w64 (of_z w64 c.den.result) ≡ pos c.in-Ok.end.prices.den = omega (arith, ints, c.den.ensures.den, c.den.ensures.limits.den.1) in
    let state : IsState c.args.trade.now first_stage c.run_stage.new.pool.items = subst (λ (at : StageAt). IsState c.args.trade.now at c.run_stage.new.pool.items) c.accuracy-first.ensures c.in-Ok.ensures.state in
    let end : IsStageEnd c.args.trade.now first_stage c.run_stage.new.pool.items c.in-Ok.end.prices c.in-Ok.end.violation c.in-Ok.end.certificate =
    subst (λ (at : StageAt). IsStageEnd c.args.trade.now at c.run_stage.new.pool.items c.in-Ok.end.prices c.in-Ok.end.violation c.in-Ok.end.certificate) c.accuracy-first.ensures c.in-Ok.ensures.ended in
    let sized = violation-sized c.args.trade.now c.goods-goods.ensures.proper c.run_stage.new.pool.items c.in-Ok.end.prices c.in-Ok.end.violation c.in-Ok.end.certificate state end in
    subst (λ (z : ℤ). IsSizedStage (balance_at z (unsigned_abs (to_z w64 (of_z w64 c.den.result))))) (sym v)
    (subst (λ (d : ℕ). IsSizedStage (balance_at c.in-Ok.end.violation d)) (sym (ap unsigned_abs same)) sized)

pub run_stage-requires-2 : goal.run_stage-requires-2
run_stage-requires-2 c =
    let fits : SFits w128 c.in-Ok.end.violation = search rules in
    let v : to_z w128 (of_z w128 c.in-Ok.end.violation) ≡ c.in-Ok.end.violation = to_z-of_z w128 c.in-Ok.end.violation fits in
    let same : to_z w64 (of_z w64 c.den.result) ≡ pos c.in-Ok.end.prices.den = omega (arith, ints, c.den.ensures.den, c.den.ensures.limits.den.1) in
    let state : IsState c.args.trade.now first_stage c.run_stage.new.pool.items = subst (λ (at : StageAt). IsState c.args.trade.now at c.run_stage.new.pool.items) c.accuracy-first.ensures c.in-Ok.ensures.state in
    let end : IsStageEnd c.args.trade.now first_stage c.run_stage.new.pool.items c.in-Ok.end.prices c.in-Ok.end.violation c.in-Ok.end.certificate =
    subst (λ (at : StageAt). IsStageEnd c.args.trade.now at c.run_stage.new.pool.items c.in-Ok.end.prices c.in-Ok.end.violation c.in-Ok.end.certificate) c.accuracy-first.ensures c.in-Ok.ensures.ended in
    let later = turned c.args.trade.now c.goods-goods.ensures.proper c.run_stage.new.pool.items c.in-Ok.end.prices c.in-Ok.end.violation c.in-Ok.end.certificate state end in
    let at : c.balance-second.result ≡ balance_at c.in-Ok.end.violation c.in-Ok.end.prices.den =
    c.balance-second.ensures ∙ ap (λ (z : ℤ). balance_at z (unsigned_abs (to_z w64 (of_z w64 c.den.result)))) v ∙ ap (λ (d : ℕ). balance_at c.in-Ok.end.violation d) (ap unsigned_abs same) in
    subst (λ (s : StageAt). IsState c.args.trade.now s c.run_stage.new.pool.items) (sym at) later

pub returns-clause-run : goal.returns-clause-run
returns-clause-run c =
    let fits : SFits w128 c.in-Ok.end.violation = search rules in
    let v : to_z w128 (of_z w128 c.in-Ok.end.violation) ≡ c.in-Ok.end.violation = to_z-of_z w128 c.in-Ok.end.violation fits in
    let later_fits : SFits w128 c.in-Ok-run_stage.end.violation = search rules in
    let w : to_z w128 (of_z w128 c.in-Ok-run_stage.end.violation) ≡ c.in-Ok-run_stage.end.violation = to_z-of_z w128 c.in-Ok-run_stage.end.violation later_fits in
    let same : to_z w64 (of_z w64 c.den.result) ≡ pos c.in-Ok.end.prices.den = omega (arith, ints, c.den.ensures.den, c.den.ensures.limits.den.1) in
    let first : IsState c.args.trade.now first_stage c.run_stage.new.pool.items = subst (λ (at : StageAt). IsState c.args.trade.now at c.run_stage.new.pool.items) c.accuracy-first.ensures c.in-Ok.ensures.state in
    let end : IsStageEnd c.args.trade.now first_stage c.run_stage.new.pool.items c.in-Ok.end.prices c.in-Ok.end.violation c.in-Ok.end.certificate =
    subst (λ (at : StageAt). IsStageEnd c.args.trade.now at c.run_stage.new.pool.items c.in-Ok.end.prices c.in-Ok.end.violation c.in-Ok.end.certificate) c.accuracy-first.ensures c.in-Ok.ensures.ended in
    let at : c.balance-second.result ≡ balance_at c.in-Ok.end.violation c.in-Ok.end.prices.den =
    c.balance-second.ensures ∙ ap (λ (z : ℤ). balance_at z (unsigned_abs (to_z w64 (of_z w64 c.den.result)))) v ∙ ap (λ (d : ℕ). balance_at c.in-Ok.end.violation d) (ap unsigned_abs same) in
    let later : IsState c.args.trade.now (balance_at c.in-Ok.end.violation c.in-Ok.end.prices.den) c.run_stage-2.new.pool.items =
    subst (λ (s : StageAt). IsState c.args.trade.now s c.run_stage-2.new.pool.items) at c.in-Ok-run_stage.ensures.state in
    let last : IsStageEnd c.args.trade.now (balance_at c.in-Ok.end.violation c.in-Ok.end.prices.den) c.run_stage-2.new.pool.items c.in-Ok-run_stage.end.prices c.in-Ok-run_stage.end.violation c.in-Ok-run_stage.end.certificate =
    subst (λ (s : StageAt). IsStageEnd c.args.trade.now s c.run_stage-2.new.pool.items c.in-Ok-run_stage.end.prices c.in-Ok-run_stage.end.violation c.in-Ok-run_stage.end.certificate) at c.in-Ok-run_stage.ensures.ended in
    record {
      pool = c.run_stage.new.pool.items;
      prices = c.in-Ok.end.prices;
      violation = c.in-Ok.end.violation;
      state = first;
      accurate = end;
      later = c.run_stage-2.new.pool.items;
      later_state = later;
      later_from = subst (λ (s : StageAt). IsRunFrom c.args.trade.now s c.run_stage.new.pool.items c.run_stage-2.new.pool.items) at c.in-Ok-run_stage.ensures.from;
      balanced = subst (λ (z : ℤ). IsStageEnd c.args.trade.now (balance_at c.in-Ok.end.violation c.in-Ok.end.prices.den) c.run_stage-2.new.pool.items c.in-Ok-run_stage.end.prices z c.in-Ok-run_stage.end.certificate) (sym w) last;
    }

pub returns-clause-priced : goal.returns-clause-priced
returns-clause-priced c = priced c.args.trade.now c.goods-goods.ensures.proper _ (returns-clause-run c)

pub returns-clause-work : goal.returns-clause-work
returns-clause-work c = more-trans _ _ _ c.run_stage.ensures.work c.run_stage-2.ensures.work

pub returns-clause-turns : goal.returns-clause-turns
returns-clause-turns c = two-turns c.args.work.now c.run_stage.new.work c.run_stage-2.new.work c.in-Ok.ensures.counted c.in-Ok-run_stage.ensures.counted
