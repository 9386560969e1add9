use Rattle.ice_journal.specs.Lines.{record_of}
use Rattle.ice_check_offer.proofs.Priced.{accuracy_other}
use Rattle.ice_check_offer.proofs.offer.Offer.take_accuracy.Goals as goal

pub returns-in-None : goal.returns-in-None
returns-in-None c = accuracy_other c.args.at.now.exchange.now c.args.at.now.number c.args.self.now c.requires.stands.place (record_of c.args.line.now) c.in-None.ensures
