use Rattle.std.proofs.Common.{sym, ◌∙◌, refl, subst}
use Rattle.ice_journal.specs.Lines.{record_of}
use Rattle.ice_statement_laws.specs.Statement.{shown}
use Rattle.ice_audit.specs.declared.auditor.Stop.{Stop}
use Rattle.ice_audit.specs.declared.auditor.Auditor.TheVariants as so_far
use Rattle.ice_audit.specs.Auditing.{StopsAt}
use Rattle.ice_audit.proofs.Sectioned.{misnamed, described, section_stops}
use Rattle.ice_audit.proofs.auditor.OwnSection.describe.Goals as goal

pub returns-then-not-allows : goal.returns-then-not-allows
returns-then-not-allows c = misnamed c.args.self.now (record_of c.args.journal_line.now) c.requires.kept c.requires.more (sym c.allows.ensures ∙ c.if-not-allows.true)

pub returns-in-Ok : goal.returns-in-Ok
returns-in-Ok c =
    described c.args.self.now (record_of c.args.journal_line.now) c.requires.kept c.requires.more (sym c.allows.ensures ∙ c.if-not-allows.false)
    (record { name = c.args.self.now.name; section = c.take.new.self }) refl c.in-Ok.ensures.taken

pub returns-in-Err : goal.returns-in-Err
returns-in-Err c =
    subst (λ (s : Stop). StopsAt (so_far.Section c.args.self.now) (shown (record_of c.args.journal_line.now)) s) (sym c.section_stop.ensures)
    (section_stops c.args.self.now (record_of c.args.journal_line.now) c.requires.kept c.requires.more (sym c.allows.ensures ∙ c.if-not-allows.false) c.in-Err.fault c.in-Err.ensures.refused)
