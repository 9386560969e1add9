use Rattle.std.proofs.Common.{◌≡◌, List, length, ℤ, sym, subst, rules, to_z, of_z}
use mir.Syntax.{w128}
use mir.Val.{SFits}
use Rattle.std.proofs.lemmas.Int.{to_z-of_z}
use Rattle.ice_defs.specs.PricingRun.{Member}
use Rattle.ice_fair_laws.specs.FairRun.{fair_weights, starts}
use Rattle.ice_fair_stage.specs.Ends.{IsFairEnd}
use Rattle.ice_fair_stage.specs.Stages.{FairStage, paid, IsState}
use Rattle.ice_fair_stage.specs.Turns.{IsFound}
use Rattle.ice_fair_stage.proofs.FairEnds.{isnt-large, fair-parts}
use Rattle.ice_fair_stage.proofs.run.run_fair_stage.Goals as goal

pub take_turns-requires : goal.take_turns-requires
take_turns-requires c =
    let d : to_z w128 (of_z w128 c.args.delta) ≡ c.args.delta = to_z-of_z w128 c.args.delta c.ranges.delta in
    subst (λ (z : ℤ). IsState c.args.trade.now (record { payments = c.args.payments.now; cut = c.args.cut; delta = z; den = c.args.den }) c.new-pool.result.items) (sym d)
    (subst (λ (pool : List Member). IsState c.args.trade.now (record { payments = c.args.payments.now; cut = c.args.cut; delta = c.args.delta; den = c.args.den }) pool) (sym c.new-pool.ensures.items)
    (record { stage = record { payments = c.requires.payments; accurate = c.requires.accurate; sized = c.requires.sized }; pool_is = starts }))

pub returns-in-Ok-clause-stated : goal.returns-in-Ok-clause-stated
returns-in-Ok-clause-stated c =
    let d : to_z w128 (of_z w128 c.args.delta) ≡ c.args.delta = to_z-of_z w128 c.args.delta c.ranges.delta in
    let at : FairStage = record { payments = c.args.payments.now; cut = c.args.cut; delta = c.args.delta; den = c.args.den } in
    let state : IsState c.args.trade.now at c.take_turns.new.pool.items = subst (λ (z : ℤ). IsState c.args.trade.now (record { payments = c.args.payments.now; cut = c.args.cut; delta = z; den = c.args.den }) c.take_turns.new.pool.items) d c.in-Ok.ensures.state in
    let found : IsFound c.args.trade.now at c.take_turns.new.pool.items c.in-Ok.found = subst (λ (z : ℤ). IsFound c.args.trade.now (record { payments = c.args.payments.now; cut = c.args.cut; delta = z; den = c.args.den }) c.take_turns.new.pool.items c.in-Ok.found) d c.in-Ok.ensures.found in
    record {
      pool = state.pool_is;
      point = found.point;
      den_fits = found.den_fits;
      certificate_is = found.certificate.value;
      fits = isnt-large (length c.args.trade.now.trees) c.take_turns.new.pool.items (fair_weights (paid c.args.trade.now at) c.args.cut c.args.delta c.args.den c.take_turns.new.pool.items) c.in-Ok.found.certificate
          found.certificate;
    }

pub returns-in-Ok-clause-fair : goal.returns-in-Ok-clause-fair
returns-in-Ok-clause-fair c =
    let d : to_z w128 (of_z w128 c.args.delta) ≡ c.args.delta = to_z-of_z w128 c.args.delta c.ranges.delta in
    let at : FairStage = record { payments = c.args.payments.now; cut = c.args.cut; delta = c.args.delta; den = c.args.den } in
    let state : IsState c.args.trade.now at c.take_turns.new.pool.items = subst (λ (z : ℤ). IsState c.args.trade.now (record { payments = c.args.payments.now; cut = c.args.cut; delta = z; den = c.args.den }) c.take_turns.new.pool.items) d c.in-Ok.ensures.state in
    let found : IsFound c.args.trade.now at c.take_turns.new.pool.items c.in-Ok.found = subst (λ (z : ℤ). IsFound c.args.trade.now (record { payments = c.args.payments.now; cut = c.args.cut; delta = z; den = c.args.den }) c.take_turns.new.pool.items c.in-Ok.found) d c.in-Ok.ensures.found in
    let (fair, near, equal, passes) = fair-parts c.args.trade.now at c.goods-goods.ensures.proper c.take_turns.new.pool.items state c.in-Ok.found found in
    let fits : SFits w128 c.in-Ok.found.violation = search rules in
    let v : to_z w128 (of_z w128 c.in-Ok.found.violation) ≡ c.in-Ok.found.violation = to_z-of_z w128 c.in-Ok.found.violation fits in
    subst (λ (z : ℤ). IsFairEnd c.args.trade.now c.args.payments.now c.args.cut c.args.delta c.args.den
    (record { pool = c.take_turns.new.pool; prices = c.in-Ok.found.prices; violation = z; distance = c.in-Ok.found.distance; certificate = c.in-Ok.found.certificate })) (sym v)
    (record {
      lowest = found.lowest;
      violates = found.violates;
      same = equal;
      fair = fair;
      distance_is = near;
      passes = passes;
      limited = found.certificate.limited;
    })
