use Rattle.std.proofs.Common.{sym, subst}
use Rattle.ice_audit.specs.declared.standing.Standing.{Standing}
use Rattle.ice_audit.specs.Auditing.{Follows}
use Rattle.ice_audit.proofs.Walked.{passes_whole, short_whole, failed_whole}
use Rattle.ice_audit.proofs.standing.Standing.answer.Goals as goal

pub returns-in-Some : goal.returns-in-Some
returns-in-Some c = λ lines n h. passes_whole c.in-Going.auditor lines c.in-Some.payment (sym c.in-Some.ensures) (subst (λ (s : Standing). Follows s lines) c.in-Going.is h)

pub returns-in-None : goal.returns-in-None
returns-in-None c = λ lines n h. short_whole c.in-Going.auditor lines c.args.number (sym c.in-None.ensures) n (subst (λ (s : Standing). Follows s lines) c.in-Going.is h)

pub returns-in-Failed : goal.returns-in-Failed
returns-in-Failed c = λ lines n h. failed_whole lines c.in-Failed.line c.in-Failed.rule (subst (λ (s : Standing). Follows s lines) c.in-Failed.is h)
