use Rattle.std.proofs.Common.{rules, ◌≡◌, ◌∙◌, ℤ, arith, subst, to_z, of_z}
use Rattle.std.proofs.lemmas.Int.{ints}
use Rattle.std.proofs.lemmas.Result.{err_from_is_err_and}
use mir.Syntax.{w64, w128}
use mir.Val.{SFits}
use Rattle.ice_defs.specs.Derived.{Derived}
use Rattle.ice_defs.specs.Steps.{leaf, sides_after}
use Rattle.ice_derived.proofs.Fitting.{amounts_are_weights}
use Rattle.ice_derivation.specs.Numbers.{changed}
use Rattle.ice_derivation.specs.Walks.{WalkView, PassesIn, FailsLeaf}
use Rattle.ice_derivation.specs.Derivations.{good_of, place_of, walk_at, no_log, in_log}
use Rattle.ice_derivation.proofs.Standing.{ready_log, numbered_kept, stepped_of, stepped_log, step_taken}
use Rattle.ice_derivation.proofs.derivations.Derivations.leaf.Goals as goal

pub leaf-requires-clause-weights : goal.leaf-requires-clause-weights
leaf-requires-clause-weights c =
    let d = c.open_log.new.self in
    amounts_are_weights c.args.trees.now d.amounts c.in_ok-open_log.ensures.kept.of.amounts c.bidders-bidders.ensures.range

pub returns-in_err-open_log-clause-fault : goal.returns-in_err-open_log-clause-fault
returns-in_err-open_log-clause-fault c =
    let p = err_from_is_err_and c.from_residual.result c.from_residual.ensures.1 in
    let is = p.2 ∙ c.in_err-open_log.ensures.order in
    rw (p.1, is) (no_log c.in_err-open_log.ensures.none)

pub returns-in_err-leaf-clause-fault : goal.returns-in_err-leaf-clause-fault
returns-in_err-leaf-clause-fault c =
    let ts = c.args.trees.now in
    let changes = c.args.changes.now in
    let old = c.args.self.now in
    let d = c.open_log.new.self in
    let why = c.in_err-leaf.field-0.0 in
    let fits : SFits w64 c.open_log.new.self.limit = search rules in
    let limit : to_z w128 (of_z w128 c.from-target.result) ≡ c.open_log.new.self.limit = omega (arith, ints, c.from-target.ensures, fits) in
    let p = err_from_is_err_and c.from_residual-in_err-leaf.result c.from_residual-in_err-leaf.ensures.1 in
    rw (p.1, p.2) (in_log c.in_ok-open_log.ensures.good
    (subst (λ (g : Derived). FailsLeaf ts g.amounts g.limit (walk_at ts (place_of old) old.walk) changes why) c.in_ok-open_log.ensures.same
    (subst (λ (v : WalkView). FailsLeaf ts d.amounts d.limit v changes why) c.in_ok-open_log.ensures.walk
    (subst (λ (z : ℤ). FailsLeaf ts d.amounts z d.walk changes why) limit c.in_err-leaf.ensures.fault))))

pub returns-in_err-leaf-clause-kept : goal.returns-in_err-leaf-clause-kept
returns-in_err-leaf-clause-kept c =
    numbered_kept c.args.trees.now c.open_log.new.self c.leaf.new.self c.leaf.new.self.numbers c.in_err-leaf.ensures.same c.in_ok-open_log.ensures.kept

pub leave_step-requires-clause-of : goal.leave_step-requires-clause-of
leave_step-requires-clause-of c =
    let w = c.open_log.new.self.walk in
    let numbers = changed w.numbers c.args.changes.now in
    stepped_of c.args.trees.now c.open_log.new.self c.leaf.new.self numbers (sides_after w.sides (leaf numbers)) c.in_ok-leaf.ensures.walk c.in_ok-open_log.ensures.kept.of

pub leave_step-requires-clause-log : goal.leave_step-requires-clause-log
leave_step-requires-clause-log c =
    let d = c.open_log.new.self in
    let numbers = changed d.walk.numbers c.args.changes.now in
    let fits : SFits w64 c.open_log.new.self.limit = search rules in
    let limit : to_z w128 (of_z w128 c.from-target.result) ≡ c.open_log.new.self.limit = omega (arith, ints, c.from-target.ensures, fits) in
    stepped_log c.args.trees.now d c.leaf.new.self numbers (leaf numbers) c.in_ok-leaf.ensures.walk
    (subst (λ (z : ℤ). PassesIn c.args.trees.now d.amounts z d.walk (leaf numbers)) limit c.in_ok-leaf.ensures.passes)
    (ready_log c.args.trees.now d (good_of c.args.self.now) c.in_ok-open_log.ensures.place c.in_ok-open_log.ensures.same c.in_ok-open_log.ensures.kept)

pub returns-clause-step : goal.returns-clause-step
returns-clause-step c =
    let d = c.open_log.new.self in
    let changes = c.args.changes.now in
    let fits : SFits w64 c.open_log.new.self.limit = search rules in
    let limit : to_z w128 (of_z w128 c.from-target.result) ≡ c.open_log.new.self.limit = omega (arith, ints, c.from-target.ensures, fits) in
    step_taken c.args.trees.now c.args.self.now d c.leave_step.new.self c.leaf.new.self (λ (v : WalkView). leaf (changed v.numbers changes))
    c.in_ok-open_log.ensures.good c.in_ok-open_log.ensures.walk c.in_ok-open_log.ensures.same c.in_ok-leaf.ensures.walk
    (subst (λ (z : ℤ). PassesIn c.args.trees.now d.amounts z d.walk (leaf (changed d.walk.numbers changes))) limit c.in_ok-leaf.ensures.passes)
    c.leave_step.ensures.place c.leave_step.ensures.walk
