use Rattle.std.proofs.Common.{Bool, false, sym, ◌∙◌, ap}
use Rattle.std.specs.Prelude.{◌&&◌, ◌||◌}
use Rattle.ice_journal.specs.Lines.{record_of}
use Rattle.ice_journal_laws.specs.declared.rule.Rule.TheVariants as rule
use Rattle.ice_section.specs.Section.{may_end}
use Rattle.ice_check_records.specs.Openings.{stops_first}
use Rattle.ice_check_records.proofs.Behind.{section_spent}
use Rattle.ice_check_records.proofs.Placing.{described_fails}
use Rattle.ice_check_records.proofs.describing.end.Goals as goal

pub returns-then-stops_first : goal.returns-then-stops_first
returns-then-stops_first c =
    let h = c.args.head in
    let s = c.args.section.value in
    let r = record_of c.args.line.now in
    described_fails h s r rule.Closed (λ n. section_spent h n s r c.requires.settings c.requires.complete (sym c.stops_first.ensures ∙ c.if-stops_first.true))

pub describe_more-requires-clause-more : goal.describe_more-requires-clause-more
describe_more-requires-clause-more c =
    let s = c.args.section.value in
    let r = record_of c.args.line.now in
    ap (λ (b : Bool). may_end s && (b || stops_first c.args.head r)) c.in-None.ensures
    ∙ ap (λ (b : Bool). may_end s && (false || b)) (sym c.stops_first.ensures ∙ c.if-stops_first.false)
    ∙ ap (λ (b : Bool). b && false) c.requires.complete
