-- What `best` finds in its two files, or why it finds nothing.
use Rattle.std.specs.Prelude.{ℕ, List, length, Ok}
use Rattle.ice_edge.specs.Told.{Told}
use Rattle.ice_defs.specs.Exchange.{Exchange, exact_of, names_of}
use Rattle.ice_defs.specs.Prices.{Prices}
use Rattle.ice_command_parts.specs.declared.refusal.Refusal.{Refusal}
use Rattle.ice_commands.specs.declared.best_set.BestSet.{BestSet}
use Rattle.ice_command_parts.specs.Call.{Call, file_limit, OfFile}
use Rattle.ice_command_parts.specs.Files.{IsExchangeOf, IsExchangeFault, IsPricesFault, HoldsExchange, HoldsPrices}
use Rattle.ice_command_parts.specs.Parts.{HasPart}
use Rattle.ice_command_parts.specs.Refusals.{IsRefusal}
use Rattle.ice_commands.specs.Bests.{AreBestSets}

-- the first file is an exchange, the second has prices for
-- its goods, and these are the best sets at them
pub record AreBestOf (shelf : Told) (exchange prices : List ℕ) (bests : List BestSet) : Type 0 where
  pub exchange_of : Exchange
  pub prices_of : Prices
  pub exchange_told : HoldsExchange shelf exchange exchange_of
  pub prices_told : HoldsPrices shelf prices (length (exact_of exchange_of)) prices_of
  pub best : AreBestSets exchange_of prices_of 0 (names_of exchange_of) bests

-- the first file is refused, or the second where the first is an exchange
pub data IsBestRefusal (call : Call) (exchange prices : List ℕ) (refusal : Refusal) : Type 0 where
  at_exchange : IsRefusal call 1 exchange file_limit IsExchangeFault refusal → IsBestRefusal call exchange prices refusal
  at_prices : (ex : Exchange) → OfFile call exchange file_limit (λ bytes. IsExchangeOf bytes (Ok ex))
      → IsRefusal call 2 prices file_limit (IsPricesFault (length (exact_of ex))) refusal → IsBestRefusal call exchange prices refusal

-- and so it is in every call that has this part
abbrev pub BestRefuses : List ℕ → List ℕ → Told → Told → Refusal → Type 0
BestRefuses exchange prices before after refusal = (call : Call) → HasPart call before after → IsBestRefusal call exchange prices refusal
