use Rattle.std.proofs.Common.{sym, subst}
use Rattle.ice_journal.specs.Records.{Record}
use Rattle.ice_journal.specs.Records as line
use Rattle.ice_journal.specs.Ranges.{IsRecord}
use Rattle.ice_journal_laws.specs.Progress.{Progress}
use Rattle.ice_check_records.specs.Stages.{IsProgress, TakesFurther}
use Rattle.ice_check_records.specs.Gaps.{LeadsFrom}
use Rattle.ice_check_records.proofs.Gapping.{head_lawful, stated_leads}
use Rattle.ice_check_records.proofs.gap.GapStage.stated.Goals as goal

pub take-requires-clause-lawful : goal.take-requires-clause-lawful
take-requires-clause-lawful c = subst IsRecord (sym c.head.ensures) (head_lawful c.args.spent.group c.args.spent.value c.args.spent.bound c.requires.there c.requires.lawful)

pub returns-clause-leads : goal.returns-clause-leads
returns-clause-leads c =
    subst (LeadsFrom c.args.number c.args.stage (line.spent c.args.spent.value c.args.spent.bound)) (sym c.opened.ensures)
    (stated_leads c.args.number c.args.stage c.take.new.self c.args.spent c.requires.awaits
    (subst (λ (r : Record). (p : Progress) → IsProgress c.args.number c.args.stage p → TakesFurther c.args.number c.take.new.self p r) c.head.ensures c.in_ok-take.ensures.after))
