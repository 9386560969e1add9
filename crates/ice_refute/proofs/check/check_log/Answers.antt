use Rattle.std.proofs.Common.{arith, rules, ◌≡◌, ◌<◌, ◌≤◌, ◌+◌, ◌∙◌, ap, refl, length, sum, true, false, sym}
use Rattle.std.proofs.lemmas.Int.{to_z-of_z}
use mir.Syntax.{w128}
use Rattle.ice_refute.specs.declared.fault.LogFault.TheVariants as faults
use Rattle.ice_refute.specs.Code.{step_of}
use Rattle.ice_refute.specs.Waiting.{nodes_of}
use Rattle.ice_refute.proofs.Kept.{kept_at_start}
use Rattle.ice_defs.specs.Derived.{goods_alone}
use Rattle.ice_refute.proofs.Reading.{stands_at_start, fault_fails}
use Rattle.ice_refute.proofs.Standing.{next_step, length-log, next_counts, long_at, short_at, closed_at, more_at, fault_at}
use Rattle.ice_refute.proofs.check.check_log.Goals as goal
use Rattle.ice_refute.proofs.NodeCounts.{same_count, same_nodes}

pub loop-step-init : goal.loop-step-init
loop-step-init c =
    let few : sum (nodes_of c.args.start.now) ≤ 2000 = omega (arith, ap sum c.requires.start) in
    rw (c.copy_fixings.ensures, c.clear.ensures.items) (record {
      number = refl;
      steps = c.steps-step-items.ensures;
      goods = c.requires.goods;
      stands = record { stands = stands_at_start goods_alone c.args.trees.now c.args.desk.now.room c.args.weights.now _ c.args.start.now c.args.log.now };
      kept = kept_at_start c.args.start.now few;
      nodes = c.requires.start;
      exact = refl;
    })

pub returns-then-not-is_open-clause-fault : goal.returns-then-not-is_open-clause-fault
returns-then-not-is_open-clause-fault c =
    let size = length-log c.steps-step-items.result.now c.args.log.now c.loop-step.invariant.steps in
    let there : c.loop-step.step-index < length c.args.log.now = omega (arith, size) in
    let shut : c.loop-step.is_open ≡ false = search rules in
    let fault = long_at c.args.trees.now c.args.desk.now.room c.args.weights.now _ c.args.start.now c.args.log.now c.loop-step.is_open c.loop-step.desk.marks c.loop-step.desk.sides.items
    c.loop-step.step-index there shut c.loop-step.invariant.stands in
    rw (c.loop-step.invariant.number, ← to_z-of_z w128 c.args.target c.ranges.target) fault

pub returns-then-not-is_open-clause-ok : goal.returns-then-not-is_open-clause-ok
returns-then-not-is_open-clause-ok c = (
  λ e. cc,
  λ passes. absurd (fault_fails goods_alone c.args.trees.now c.args.desk.now.room c.args.weights.now c.args.target c.args.start.now c.args.log.now (faults.Long c.loop-step.number)
      (returns-then-not-is_open-clause-fault c) passes),
)

pub take_step-requires-clause-goods : goal.take_step-requires-clause-goods
take_step-requires-clause-goods c =
    let i = c.loop-step.invariant in
    let next = next_step c.steps-step-items.result.now c.args.log.now c.loop-step.step-index c.step-item.result i.steps (omega arith) c.step-item.is in
    rw i.exact (next_counts (length c.args.desk.now.room) c.loop-step.step-index c.args.log.now (step_of c.step-item.result) next i.goods).0

pub returns-in-Err-clause-fault : goal.returns-in-Err-clause-fault
returns-in-Err-clause-fault c =
    let i = c.loop-step.invariant in
    let size = length-log c.steps-step-items.result.now c.args.log.now i.steps in
    let next = next_step c.steps-step-items.result.now c.args.log.now c.loop-step.step-index c.step-item.result i.steps (omega arith) c.step-item.is in
    let still : c.loop-step.is_open ≡ true = search rules in
    let has = rw i.exact at c.in-Err.ensures.fault in
    let fault = fault_at c.args.trees.now c.args.desk.now.room c.args.weights.now _ c.args.start.now c.args.log.now c.loop-step.is_open c.loop-step.desk.marks c.loop-step.desk.sides.items
    c.loop-step.step-index (step_of c.step-item.result) c.in-Err.fault still (omega (arith, size)) next has i.stands in
    rw (i.number, ← to_z-of_z w128 c.args.target c.ranges.target) fault

pub returns-in-Err-clause-ok : goal.returns-in-Err-clause-ok
returns-in-Err-clause-ok c = (
  λ e. cc,
  λ passes. absurd (fault_fails goods_alone c.args.trees.now c.args.desk.now.room c.args.weights.now c.args.target c.args.start.now c.args.log.now (faults.At c.loop-step.number c.in-Err.fault)
      (returns-in-Err-clause-fault c) passes),
)

pub loop-step-preserved : goal.loop-step-preserved
loop-step-preserved c =
    let i = c.loop-step.invariant in
    let next = next_step c.steps-step-items.result.now c.args.log.now c.loop-step.step-index c.step-item.result i.steps (omega arith) c.step-item.is in
    let still : c.loop-step.is_open ≡ true = search rules in
    let passes = rw i.exact at c.in-Ok.ensures.passes in
    record {
      number = ap (λ k. k + 1) i.number;
      steps = i.steps;
      goods = (next_counts (length c.args.desk.now.room) c.loop-step.step-index c.args.log.now (step_of c.step-item.result) next i.goods).1;
      stands = more_at c.args.trees.now c.args.desk.now.room c.args.weights.now _ c.args.start.now c.args.log.now c.loop-step.is_open c.loop-step.desk.marks c.loop-step.desk.sides.items
          c.loop-step.step-index (step_of c.step-item.result) c.in-Ok.still_open c.take_step.new.desk.marks c.take_step.new.desk.sides.items still next passes c.in-Ok.ensures.sides i.stands;
      kept = c.in-Ok.ensures.kept;
      nodes = c.in-Ok.ensures.nodes ∙ i.nodes;
      exact = c.in-Ok.ensures.exact ∙ i.exact;
    }

pub returns-then-is_open-clause-fault : goal.returns-then-is_open-clause-fault
returns-then-is_open-clause-fault c =
    let i = c.loop-step.invariant in
    let size = length-log c.steps-step-items.result.now c.args.log.now i.steps in
    let still : c.loop-step.is_open ≡ true = search rules in
    let fault = short_at c.args.trees.now c.args.desk.now.room c.args.weights.now _ c.args.start.now c.args.log.now c.loop-step.is_open c.loop-step.desk.marks c.loop-step.desk.sides.items
    c.loop-step.step-index (omega (arith, size)) still i.stands in
    rw (← to_z-of_z w128 c.args.target c.ranges.target) fault

pub returns-then-is_open-clause-ok : goal.returns-then-is_open-clause-ok
returns-then-is_open-clause-ok c = (
  λ e. cc,
  λ passes. absurd (fault_fails goods_alone c.args.trees.now c.args.desk.now.room c.args.weights.now c.args.target c.args.start.now c.args.log.now faults.Short
      (returns-then-is_open-clause-fault c) passes),
)

pub returns-clause-ok : goal.returns-clause-ok
returns-clause-ok c =
    let i = c.loop-step.invariant in
    let size = length-log c.steps-step-items.result.now c.args.log.now i.steps in
    let shut : c.loop-step.is_open ≡ false = search rules in
    let passes = closed_at c.args.trees.now c.args.desk.now.room c.args.weights.now _ c.args.start.now c.args.log.now c.loop-step.is_open c.loop-step.desk.marks c.loop-step.desk.sides.items
    c.loop-step.step-index (omega (arith, size)) shut i.stands in
    (λ e. rw (← to_z-of_z w128 c.args.target c.ranges.target) passes, λ p. refl)

pub copy_fixings-requires-clause-bidders : goal.copy_fixings-requires-clause-bidders
copy_fixings-requires-clause-bidders c = same_count c.args.start.now c.args.desk.now.marks (c.requires.start ∙ sym c.requires.marks)

pub copy_fixings-requires-clause-nodes : goal.copy_fixings-requires-clause-nodes
copy_fixings-requires-clause-nodes c b h = same_nodes c.args.start.now c.args.desk.now.marks b (c.requires.start ∙ sym c.requires.marks)
