use Rattle.std.proofs.Common.{sym, subst}
use Rattle.ice_audit.specs.declared.line.StatementLine.{StatementLine}
use Rattle.ice_audit.specs.declared.auditor.OwnSection.{OwnSection}
use Rattle.ice_audit.specs.declared.auditor.Auditor.TheVariants as so_far
use Rattle.ice_audit.specs.Lines.{line_of}
use Rattle.ice_audit.specs.Auditing.{GoesFurther}
use Rattle.ice_audit.proofs.Sectioned.{named_taken}
use Rattle.ice_audit.proofs.auditor.begin.Goals as goal

pub returns-in-Named : goal.returns-in-Named
returns-in-Named c =
    let own : OwnSection = record { name = c.copy.result; section = c.new.result } in
    subst (λ (l : StatementLine). GoesFurther so_far.Name (line_of l) (so_far.Section own)) (sym c.in-Named.is) (named_taken c.in-Named.name own c.copy.ensures.copy c.new.ensures)
