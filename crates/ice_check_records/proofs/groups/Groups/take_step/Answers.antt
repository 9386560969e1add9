use Rattle.std.proofs.Common.{rules, ◌≡◌, ℤ, ◌∙◌}
use Rattle.std.proofs.lemmas.Int.{to_z-of_z}
use Rattle.std.proofs.lemmas.Result.{err_from_is_err_and}
use mir.Syntax.{w64, w128}
use mir.Val.{SFits, to_z, of_z}
use Rattle.ice_journal.specs.Lines.{record_of}
use Rattle.ice_check_records.proofs.Logged.{step_fails, step_taken}
use Rattle.ice_check_records.proofs.groups.Groups.take_step.Goals as goal

pub returns : goal.returns
returns c =
    let g = c.args.self.now in
    let value_fits : SFits w64 g.value = search rules in
    let target_fits : SFits w128 c.from-target.result = search rules in
    let target : ℤ = to_z w128 (of_z w128 c.from-target.result) in
    let target_is : target ≡ g.value = to_z-of_z w128 c.from-target.result target_fits ∙ c.from-target.ensures ∙ to_z-of_z w64 g.value value_fits in
    step_taken c.args.group g c.take.new.self c.leave.new.self c.trees.result.now g.log.weights target _ (record_of c.args.line.now)
    c.requires.ready.0.log (record { trees = c.trees.ensures.value; weights = c.requires.ready.0.weights; target_is = target_is; version_is = c.version.ensures }) c.requires.kept c.requires.ready.1 c.in_ok-take.ensures.passes c.leave.ensures

pub returns-in_err-take : goal.returns-in_err-take
returns-in_err-take c =
    let g = c.args.self.now in
    let value_fits : SFits w64 g.value = search rules in
    let target_fits : SFits w128 c.from-target.result = search rules in
    let target : ℤ = to_z w128 (of_z w128 c.from-target.result) in
    let target_is : target ≡ g.value = to_z-of_z w128 c.from-target.result target_fits ∙ c.from-target.ensures ∙ to_z-of_z w64 g.value value_fits in
    let p = err_from_is_err_and c.from_residual.result c.from_residual.ensures.1 in
    rw (p.1, p.2)
    (step_fails c.args.group g c.trees.result.now g.log.weights target _ (record_of c.args.line.now) _
    (record { trees = c.trees.ensures.value; weights = c.requires.ready.0.weights; target_is = target_is; version_is = c.version.ensures }) c.requires.kept c.requires.ready.1 c.in_err-take.ensures.fails)
