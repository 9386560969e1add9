use Rattle.ice_journal.specs.Lines.{record_of}
use Rattle.ice_check_offer.proofs.Judging.{round_opens}
use Rattle.ice_check_offer.proofs.offer.Offer.take.Goals as goal

pub take_submission-requires-clause-opens : goal.take_submission-requires-clause-opens
take_submission-requires-clause-opens c = round_opens c.args.exchange.now c.args.number c.args.self.now c.in-Round.is (record_of c.args.line.now)
