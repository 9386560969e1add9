use Rattle.std.proofs.Common.{sym, subst}
use Rattle.ice_defs.specs.declared.Verdict.{Verdict}
use Rattle.ice_journal.specs.Records as line
use Rattle.ice_check_offer.specs.declared.place.Place.TheVariants as place
use Rattle.ice_check_offer.specs.Taking.{GoesOn}
use Rattle.ice_check_offer.proofs.Judging.{verdict_fails, verdict_taken}
use Rattle.ice_check_offer.proofs.offer.Offer.state_verdict.Goals as goal

pub returns-then-is_due : goal.returns-then-is_due
returns-then-is_due c = λ number.
    subst (λ (v : Verdict). GoesOn c.args.exchange.now number c.args.self.now (line.verdict v) (record c.args.self.now { place = place.Round })) (sym (c.is_due.ensures.yes c.if-is_due.true))
    (verdict_taken c.args.exchange.now number c.args.self.now c.args.due c.requires.place c.requires.kept)

pub returns-else-is_due : goal.returns-else-is_due
returns-else-is_due c = λ number. verdict_fails c.args.exchange.now number c.args.self.now c.args.due c.requires.place c.args.verdict (c.is_due.ensures.no c.if-is_due.false)
