use Rattle.std.proofs.Common.{◌-◌, sym, subst}
use Rattle.ice_journal.specs.Lines.{record_of}
use Rattle.ice_journal_laws.specs.declared.rule.Rule.{Rule}
use Rattle.ice_journal_laws.specs.Progress.{failed, TakesOn}
use Rattle.ice_check_offer.proofs.Listed.{list_fails}
use Rattle.ice_check_offer.proofs.offer.Offer.end_rows.Goals as goal

pub returns-then-has_failed : goal.returns-then-has_failed
returns-then-has_failed c = λ s st n.
    let at = c.args.at.now in
    subst (λ (y : Rule). TakesOn s (record_of c.args.line.now) (failed (record { line = s.line - 1; rule = y }))) (sym c.rule_of_list.ensures)
    (list_fails at.exchange.now at.number c.args.self.now c.args.list c.requires.stands.place (record_of c.args.line.now) c.requires.no_row
    (c.has_failed.ensures.room c.if-has_failed.true) (c.has_failed.ensures.fails c.if-has_failed.true) s st n)
