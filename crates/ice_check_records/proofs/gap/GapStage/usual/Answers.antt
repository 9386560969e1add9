use Rattle.std.proofs.Common.{sym, subst}
use Rattle.ice_journal.specs.Lines.{record_of}
use Rattle.ice_check_records.specs.Gaps.{LeadsFrom}
use Rattle.ice_check_records.proofs.Gapping.{usual_leads}
use Rattle.ice_check_records.proofs.gap.GapStage.usual.Goals as goal

pub returns-clause-leads : goal.returns-clause-leads
returns-clause-leads c =
    subst (LeadsFrom c.args.number c.args.stage (record_of c.args.line.now)) (sym c.of.ensures)
    (usual_leads c.args.number c.args.stage c.take.new.self (record_of c.args.line.now) c.requires.open c.requires.none c.in_ok-take.ensures.after)
