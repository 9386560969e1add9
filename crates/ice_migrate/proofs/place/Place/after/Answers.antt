use Rattle.std.proofs.Common.{arith, ap, ◌∙◌}
use Rattle.ice_defs.specs.Steps.{leaf, branch, dead}
use Rattle.ice_journal.specs.Records as line
use Rattle.ice_journal.specs.Plain.{all_zero}
use Rattle.ice_journal_laws.specs.State.{at_pool, goods_at}
use Rattle.ice_migrate.specs.Stopped.{place_of, count_at}
use Rattle.ice_migrate.specs.declared.place.Place.TheVariants.{Sets, Log, Pool}
use Rattle.ice_migrate.proofs.Stopping.{at_place, stays_there, after_set, after_step, branch_taken, dead_taken, leaf_taken}
use Rattle.ice_migrate.proofs.place.Place.after.Goals as goal

pub returns-in-Sets-Set-clause-place : goal.returns-in-Sets-Set-clause-place
returns-in-Sets-Set-clause-place c = λ s has at.
    at_place s c.args.self (Sets c.in-Sets-Set.taken) c.args.line.now _ _ c.in-Sets-Set.is-0 c.in-Sets-Set.is-1
    (after_set s c.args.counts c.in-Sets-Set.taken c.in-Sets-Set.field-0-1 (place_of c.behind_sets.result) has c.behind_sets.ensures.place)

pub returns-in-Sets-Set-clause-more : goal.returns-in-Sets-Set-clause-more
returns-in-Sets-Set-clause-more c = omega (arith, ap count_at c.in-Sets-Set.is-0, c.behind_sets.ensures.few)

pub returns-in-Log-Branch-clause-place : goal.returns-in-Log-Branch-clause-place
returns-in-Log-Branch-clause-place c = λ s has at.
    at_place s c.args.self (Log c.in-Log-Branch.sides) c.args.line.now _ _ c.in-Log-Branch.is-0 c.in-Log-Branch.is-1
    (after_step s c.in-Log-Branch.sides _ (line.step (branch c.in-Log-Branch.bidder-1 c.in-Log-Branch.node-1)) (branch c.in-Log-Branch.bidder-1 c.in-Log-Branch.node-1) (place_of c.behind_step.result)
    (branch_taken s c.args.counts (all_zero (goods_at s)) c.in-Log-Branch.bidder-1 c.in-Log-Branch.node-1 has) (omega arith) c.behind_step.ensures.place)

pub returns-in-Log-Branch-clause-more : goal.returns-in-Log-Branch-clause-more
returns-in-Log-Branch-clause-more c = omega (arith, ap count_at c.in-Log-Branch.is-0, c.behind_step.ensures.few)

pub returns-then-len-counts-clause-place : goal.returns-then-len-counts-clause-place
returns-then-len-counts-clause-place c = λ s has at.
    at_place s c.args.self (Log c.in-Log-Leaf.sides) c.args.line.now _ _ c.in-Log-Leaf.is-0 c.in-Log-Leaf.is-1
    (after_step s c.in-Log-Leaf.sides _ (line.step (leaf c.in-Log-Leaf.multipliers.items)) (leaf c.in-Log-Leaf.multipliers.items) (place_of c.behind_step-then-len-counts.result)
    (leaf_taken s c.args.counts (all_zero (goods_at s)) c.in-Log-Leaf.multipliers.items has (omega (arith, c.len.ensures.value, c.if-len-counts.true))) (omega (arith, c.saturating_sub.ensures)) c.behind_step-then-len-counts.ensures.place)

pub returns-then-len-counts-clause-more : goal.returns-then-len-counts-clause-more
returns-then-len-counts-clause-more c = omega (arith, ap count_at c.in-Log-Leaf.is-0, c.behind_step-then-len-counts.ensures.few, c.saturating_sub.ensures)

pub returns-in-Log-Dead-clause-place : goal.returns-in-Log-Dead-clause-place
returns-in-Log-Dead-clause-place c = λ s has at.
    at_place s c.args.self (Log c.in-Log-Dead.sides) c.args.line.now _ _ c.in-Log-Dead.is-0 c.in-Log-Dead.is-1
    (after_step s c.in-Log-Dead.sides _ (line.step (dead c.in-Log-Dead.bidder-1)) (dead c.in-Log-Dead.bidder-1) (place_of c.behind_step-in-Log-Dead.result)
    (dead_taken s c.args.counts (all_zero (goods_at s)) c.in-Log-Dead.bidder-1 has) (omega (arith, c.saturating_sub-in-Log-Dead.ensures)) c.behind_step-in-Log-Dead.ensures.place)

pub returns-in-Log-Dead-clause-more : goal.returns-in-Log-Dead-clause-more
returns-in-Log-Dead-clause-more c = omega (arith, ap count_at c.in-Log-Dead.is-0, c.behind_step-in-Log-Dead.ensures.few, c.saturating_sub-in-Log-Dead.ensures)

pub returns-in-Pool-Pool-clause-place : goal.returns-in-Pool-Pool-clause-place
returns-in-Pool-Pool-clause-place c = λ s has at.
    at_place s c.args.self Pool c.args.line.now _ _ c.in-Pool-Pool.is-0 c.in-Pool-Pool.is-1 (stays_there s at_pool (at ∙ ap place_of c.in-Pool-Pool.is-0))
