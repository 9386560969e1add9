use Rattle.std.proofs.Common.{sym, ◌∙◌}
use Rattle.ice_check_offer.proofs.Priced.{prices_uncounted}
use Rattle.ice_check_offer.proofs.offer.Offer.state_prices.Goals as goal

pub put_prices-requires-clause-counts : goal.put_prices-requires-clause-counts
put_prices-requires-clause-counts c = sym c.count_goods.ensures ∙ c.if-count_goods.true

pub returns-else-count_goods : goal.returns-else-count_goods
returns-else-count_goods c = λ number. prices_uncounted c.args.exchange.now number c.args.self.now c.requires.place c.args.prices.now (sym c.count_goods.ensures ∙ c.if-count_goods.false)
