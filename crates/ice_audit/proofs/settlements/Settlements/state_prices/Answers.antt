use Rattle.std.proofs.Common.{sym, ◌∙◌}
use Rattle.ice_audit.proofs.Stepping.{prices_uncounted}
use Rattle.ice_audit.proofs.settlements.Settlements.state_prices.Goals as goal

pub returns-else-count_goods : goal.returns-else-count_goods
returns-else-count_goods c = prices_uncounted c.args.self.now c.args.prices.now c.requires.next (sym c.count_goods.ensures ∙ c.if-count_goods.false)
