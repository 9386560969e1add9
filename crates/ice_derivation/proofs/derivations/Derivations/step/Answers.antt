use Rattle.std.proofs.Common.{◌∙◌, subst}
use Rattle.std.proofs.lemmas.Result.{err_from_is_err_and}
use Rattle.ice_defs.specs.Derived.{with_derived}
use Rattle.ice_refute.specs.Code.{step_of}
use Rattle.ice_refute.specs.Passing.{HasFaultBy}
use Rattle.ice_refute.specs.Waiting.{first_side}
use Rattle.ice_derivation.specs.Walks.{WalkView}
use Rattle.ice_derivation.specs.Derivations.{good_of, no_log, in_log}
use Rattle.ice_derivation.proofs.Standing.{ready_log, stepped_of, stepped_log, plain_passes, plain_fails}
use Rattle.ice_derivation.proofs.derivations.Derivations.step.Goals as goal

pub returns-in_err-open_log-clause-fault : goal.returns-in_err-open_log-clause-fault
returns-in_err-open_log-clause-fault c =
    let p = err_from_is_err_and c.from_residual.result c.from_residual.ensures.1 in
    let is = p.2 ∙ c.in_err-open_log.ensures.order in
    rw (p.1, is) (no_log c.in_err-open_log.ensures.none)

pub returns-in_err-step-clause-fault : goal.returns-in_err-step-clause-fault
returns-in_err-step-clause-fault c =
    let d = c.args.self.now in
    let good = good_of d in
    let x = step_of c.args.step.now in
    let why = c.in_err-step.field-0.0 in
    let w = c.open_log.new.self.walk in
    let p = err_from_is_err_and c.from_residual-in_err-step.result c.from_residual-in_err-step.ensures.1 in
    rw (p.1, p.2) (in_log c.in_ok-open_log.ensures.good
    (subst (λ (v : WalkView). HasFaultBy (with_derived v.derived) c.args.trees.now v.exact good.amounts good.limit (first_side v.sides) x why) c.in_ok-open_log.ensures.walk
    (plain_fails (with_derived w.derived) c.args.trees.now w.exact _ good.amounts _ good.limit (first_side w.sides) x why c.requires.plain c.in_err-step.ensures.fault)))

pub leave_step-requires-clause-of : goal.leave_step-requires-clause-of
leave_step-requires-clause-of c =
    let d = c.open_log.new.self in
    stepped_of c.args.trees.now d c.step.new.self d.walk.numbers _ c.in_ok-step.ensures.walk c.in_ok-open_log.ensures.kept.of

pub leave_step-requires-clause-log : goal.leave_step-requires-clause-log
leave_step-requires-clause-log c =
    let d = c.open_log.new.self in
    let x = step_of c.args.step.now in
    stepped_log c.args.trees.now d c.step.new.self d.walk.numbers x c.in_ok-step.ensures.walk
    (plain_passes (with_derived d.walk.derived) c.args.trees.now d.walk.exact _ d.amounts _ d.limit (first_side d.walk.sides) x c.requires.plain c.in_ok-step.ensures.passes)
    (ready_log c.args.trees.now d (good_of c.args.self.now) c.in_ok-open_log.ensures.place c.in_ok-open_log.ensures.same c.in_ok-open_log.ensures.kept)
