use Rattle.std.proofs.Common.{sym, ◌∙◌}
use Rattle.ice_journal.specs.Lines.{record_of}
use Rattle.ice_check_offer.proofs.Priced.{limit_closes, prices_other}
use Rattle.ice_check_offer.proofs.offer.Offer.take_prices.Goals as goal

pub returns-then-is_limit : goal.returns-then-is_limit
returns-then-is_limit c = λ number. limit_closes c.args.exchange.now number c.args.self.now c.requires.place (record_of c.args.line.now) (sym c.is_limit.ensures ∙ c.if-is_limit.true)

pub returns-in-None : goal.returns-in-None
returns-in-None c = λ number. prices_other c.args.exchange.now number c.args.self.now c.requires.place (record_of c.args.line.now) c.in-None.ensures (sym c.is_limit.ensures ∙ c.if-is_limit.false)
