use Rattle.std.proofs.Common.{sym, ◌∙◌}
use Rattle.ice_journal.specs.Lines.{record_of}
use Rattle.ice_check_records.specs.declared.next.Next.TheVariants as coming
use Rattle.ice_check_records.specs.Heads.{end_of}
use Rattle.ice_check_records.specs.Groups.{known_in}
use Rattle.ice_journal_laws.proofs.Settling.{unended}
use Rattle.ice_check_records.proofs.Ending.{end_taken}
use Rattle.ice_check_records.proofs.groups.Groups.take_end.Goals as goal

pub returns-then-not-ends : goal.returns-then-not-ends
returns-then-not-ends c =
    let g = c.args.self.now in
    λ s quiet. unended (known_in g coming.End s) (end_of g.head) (record_of c.args.line.now) (sym c.ends.ensures ∙ c.if-not-ends.true)

pub returns : goal.returns
returns c = end_taken c.args.self.now (record_of c.args.line.now) c.requires (sym c.ends.ensures ∙ c.if-not-ends.false)
