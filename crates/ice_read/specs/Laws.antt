-- What is written is read again, and what is no JSON, as statements.
use Rattle.std.specs.Prelude.{◌≡◌, ℕ, List, [], ◌∷◌, Ok}
use Rattle.ice_defs.specs.Exchange.{Exchange}
use Rattle.ice_defs.specs.Lawful.{IsExchange}
use Rattle.ice_defs.specs.FileFault.{refuse}
use Rattle.ice_read.specs.ExchangeFile.{exchange_of}
use Rattle.ice_read.specs.Written.{exchange_text}

-- the text of a lawful exchange is read as that exchange
abbrev pub WrittenIsRead : Type 0
WrittenIsRead = (ex : Exchange) → IsExchange ex → exchange_of (exchange_text ex) ≡ Ok ex

-- bytes that begin with the letter `i`, as a file in line form does, are refused as no JSON
abbrev pub LineFormIsNoJson : Type 0
LineFormIsNoJson = (rest : List ℕ) → exchange_of (105 ∷ rest) ≡ refuse 1 []
