use Rattle.std.proofs.Common.{sym, subst}
use Rattle.ice_audit.specs.declared.standing.Standing.{Standing}
use Rattle.ice_audit.specs.declared.standing.Standing.TheVariants.{Going, Failed}
use Rattle.ice_audit.specs.Lines.{line_of}
use Rattle.ice_audit.specs.Auditing.{GoesBehind}
use Rattle.ice_audit.proofs.Walked.{on_further, fails_behind}
use Rattle.ice_audit.proofs.standing.Standing.take.Goals as goal

pub returns-in-Ok : goal.returns-in-Ok
returns-in-Ok c =
    subst (λ (s : Standing). GoesBehind c.args.number s (line_of c.args.line.now) (Going c.take.new.self)) (sym c.in-Going.is)
    (on_further c.args.number c.in-Going.auditor (line_of c.args.line.now) c.take.new.self c.in-Ok.ensures)

pub returns-in-Err-Fails : goal.returns-in-Err-Fails
returns-in-Err-Fails c =
    subst (λ (t : Standing). GoesBehind c.args.number c.args.self.now (line_of c.args.line.now) t) (sym c.fail.ensures)
    (subst (λ (s : Standing). GoesBehind c.args.number s (line_of c.args.line.now) (Failed c.args.number c.in-Err-Fails.rule)) (sym c.in-Going.is)
    (fails_behind c.args.number c.in-Going.auditor (line_of c.args.line.now) c.in-Err-Fails.rule (rw c.in-Err-Fails.field-0-is at c.in-Err-Fails.ensures)))
