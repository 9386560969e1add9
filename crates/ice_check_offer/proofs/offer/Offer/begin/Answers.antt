use Rattle.ice_check_offer.proofs.Beginning.{begun}
use Rattle.ice_check_offer.proofs.offer.Offer.begin.Goals as goal

pub returns-clause-stands : goal.returns-clause-stands
returns-clause-stands c = begun c.args.exchange.now c.args.self.now c.args.sets.now c.offer.new.self c.offer.ensures.sets c.offer.ensures.round c.requires.fresh
