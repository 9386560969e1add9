use Rattle.std.proofs.Common.{sym, subst}
use Rattle.ice_defs.specs.declared.Verdict.{Verdict}
use Rattle.ice_journal.specs.Records as line
use Rattle.ice_statement_laws.specs.Statement.{shown}
use Rattle.ice_audit.specs.declared.next.Next.TheVariants as next
use Rattle.ice_audit.specs.Taking.{GoesOn}
use Rattle.ice_audit.proofs.Judged.{verdict_taken, verdict_wrong}
use Rattle.ice_audit.proofs.settlements.Settlements.state_verdict.Goals as goal

pub returns-then-is_due : goal.returns-then-is_due
returns-then-is_due c =
    let x = c.args.self.now in
    subst (λ (v : Verdict). GoesOn x (shown (line.verdict v)) (record x { next = next.Round })) (sym (c.is_due.ensures.yes c.if-is_due.true)) (verdict_taken x c.requires.kept c.args.due c.requires.next)

pub returns-else-is_due : goal.returns-else-is_due
returns-else-is_due c = verdict_wrong c.args.self.now c.requires.kept c.args.due c.requires.next c.args.verdict (c.is_due.ensures.no c.if-is_due.false)
