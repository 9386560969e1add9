use Rattle.std.proofs.Common.{sym, subst}
use Rattle.ice_verdicts.specs.Judges.{Round}
use Rattle.ice_journal.specs.Records as line
use Rattle.ice_check_offer.specs.declared.place.Place.TheVariants as place
use Rattle.ice_check_offer.specs.Taking.{GoesOn}
use Rattle.ice_check_offer.proofs.Priced.{prices_fail, prices_taken}
use Rattle.ice_check_offer.proofs.offer.Offer.put_prices.Goals as goal

pub returns-then-are_lawful_in : goal.returns-then-are_lawful_in
returns-then-are_lawful_in c = λ number.
    subst (λ (r : Round). GoesOn c.args.exchange.now number c.args.self.now (line.prices c.args.prices.now) (record c.args.self.now { place = place.Accuracy; judge = r })) (sym c.price.ensures.prices)
    (prices_taken c.args.exchange.now number c.args.self.now c.requires.place c.args.prices.now c.requires.counts (c.are_lawful_in.ensures.yes c.if-are_lawful_in.true) c.requires.kept)

pub returns-else-are_lawful_in : goal.returns-else-are_lawful_in
returns-else-are_lawful_in c = λ number. prices_fail c.args.exchange.now number c.args.self.now c.requires.place c.args.prices.now c.requires.counts (c.are_lawful_in.ensures.no c.if-are_lawful_in.false)
