use Rattle.std.proofs.Common.{◌≡◌, ℤ, sym, ◌∙◌, subst}
use Rattle.std.specs.Prelude.{IfErr}
use Rattle.std.proofs.lemmas.Int.{to_z-of_z}
use mir.Syntax.{w128}
use mir.Val.{to_z, of_z}
use Rattle.std.proofs.lemmas.Bool.{true≢false}
use Rattle.ice_refute.specs.Code.{step_of}
use Rattle.ice_journal.specs.Lines.{record_of, version_of}
use Rattle.ice_refute.specs.Waiting.{first_side}
use Rattle.ice_journal_laws.specs.Stepping.{FailsAt, is_misstated}
use Rattle.ice_journal_laws.proofs.Walking.{fault_fails}
use Rattle.ice_check_records.proofs.log.LogWalk.take_step.Goals as goal

pub returns-then-misstates-clause-fails : goal.returns-then-misstates-clause-fails
returns-then-misstates-clause-fails c = is_misstated {x = step_of c.args.step} c.requires.stated.0 (c.misstates.ensures.0 c.if-misstates.true)

pub returns-clause-fails : goal.returns-clause-fails
returns-clause-fails c =
    let s = c.args.self.now in
    let same : to_z w128 (of_z w128 c.args.target) ≡ c.args.target = to_z-of_z w128 c.args.target c.ranges.target in
    fault_fails c.args.trees.now s.desk.room s.weights c.args.target (version_of c.args.version) s.walk.sides s.before (record_of c.args.line.now) (step_of c.args.step) c.step.result
    c.requires.stated.0 (λ h. true≢false (sym (c.misstates.ensures.1 h) ∙ c.if-misstates.false))
    (subst (λ (z : ℤ). IfErr c.step.result (FailsAt c.args.trees.now s.desk.room s.weights z (first_side s.walk.sides) (step_of c.args.step))) same c.step.ensures.fault)
