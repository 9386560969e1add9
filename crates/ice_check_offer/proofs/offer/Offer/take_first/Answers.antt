use Rattle.std.proofs.Common.{sym, ◌∙◌}
use Rattle.ice_journal.specs.Lines.{record_of}
use Rattle.ice_check_offer.proofs.Listed.{first_stops, first_opens}
use Rattle.ice_check_offer.proofs.offer.Offer.take_first.Goals as goal

pub returns-then-stops_round : goal.returns-then-stops_round
returns-then-stops_round c =
    let at = c.args.at.now in
    first_stops at.exchange.now at.number c.args.self.now c.requires.stands.place c.requires.passed (record_of c.args.line.now) (sym c.stops_round.ensures ∙ c.if-stops_round.true)

pub take_submission-requires-clause-opens : goal.take_submission-requires-clause-opens
take_submission-requires-clause-opens c =
    let at = c.args.at.now in
    first_opens at.exchange.now at.number c.args.self.now c.requires.stands.place c.requires.passed (record_of c.args.line.now) c.requires.no_row (sym c.stops_round.ensures ∙ c.if-stops_round.false)
