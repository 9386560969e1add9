use Rattle.ice_check_offer.proofs.Judging.{submission_taken}
use Rattle.ice_check_offer.proofs.offer.Offer.submit.Goals as goal

pub returns : goal.returns
returns c = λ number opens.
    submission_taken c.args.exchange.now number c.args.self.now c.args.bid.now c.submit-due.new.self c.submit-due.result
    c.submit-due.ensures.changed c.submit-due.ensures.round c.submit-due.ensures.next c.submit-due.ensures.after c.requires.kept opens
