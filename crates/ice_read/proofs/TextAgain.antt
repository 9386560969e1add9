-- The text of a lawful exchange is read again as the exchange.
use Rattle.std.proofs.Common.{ap, ◌∙◌}
use Rattle.ice_read.specs.ExchangeFile.{of_json, exchange_of_value}
use Rattle.ice_read.specs.Laws.{WrittenIsRead}
use Rattle.ice_trade.proofs.Passing.{owned_lawful}
use Rattle.ice_read.proofs.ExchangeAgain.{exchange_again}
use Rattle.ice_read.proofs.WrittenText.{value_again}

pub written_is_read : WrittenIsRead
written_is_read ex is = ap (of_json exchange_of_value) (value_again ex is) ∙ exchange_again ex is (owned_lawful ex is)
