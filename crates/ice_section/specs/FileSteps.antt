-- Exchange and prices files in line form, record by record.
use Rattle.std.specs.Prelude.{ℕ, suc, ◌≡◌, Bool, true, false, List, [], ◌∷◌, Option, Some, None, Result, Ok, Err}
use Rattle.ice_defs.specs.FileFault.{FileFault, at_line}
use Rattle.ice_defs.specs.Exchange.{Exchange}
use Rattle.ice_defs.specs.Prices.{Prices}
use Rattle.ice_journal.specs.Records.{Record, version_1, exchange_kind, prices_kind, prices_end}
use Rattle.ice_journal.specs.Records as line
use Rattle.ice_section.specs.Section.{Section, no_section}
use Rattle.ice_section.specs.LineFile.{exchange_from, exchange_at_end, exchange_of_records, prices_from, prices_at_end, prices_of_records}

-- ---- exchange files

abbrev pub is_exchange_head : Record → Bool
is_exchange_head (line.head version_1 exchange_kind) = true
is_exchange_head other = false

-- what of an exchange file was read
pub data ExchangeSoFar : Type 0 where
  before_head : ExchangeSoFar
  in_section : Section → ExchangeSoFar
  after_end : Section → ExchangeSoFar
  at_fault : FileFault → ExchangeSoFar

-- what the rest of the records gives, after so many lines
abbrev pub exchange_after : ℕ → ExchangeSoFar → List Record → Result Exchange FileFault
exchange_after lines before_head rest = exchange_of_records rest
exchange_after lines (in_section s) rest = exchange_from (suc lines) s rest
exchange_after lines (after_end s) rest = exchange_at_end lines s rest
exchange_after lines (at_fault fault) rest = Err fault

-- no line was read before the head
abbrev pub IsBegun : ℕ → ExchangeSoFar → Section → Type 0
IsBegun lines before_head s = (lines ≡ 0) × (s ≡ no_section)
IsBegun lines (in_section t) s = Unit {0}
IsBegun lines (after_end t) s = Unit {0}
IsBegun lines (at_fault fault) s = Unit {0}

-- ---- prices files

abbrev pub is_prices_head : Record → Bool
is_prices_head (line.head version_1 prices_kind) = true
is_prices_head other = false

abbrev pub is_prices_end : Record → Bool
is_prices_end (line.end prices_end) = true
is_prices_end other = false

pub data PricesSoFar : Type 0 where
  no_head no_prices : PricesSoFar
  no_end with_end : Prices → PricesSoFar
  in_fault : FileFault → PricesSoFar

abbrev pub nothing_more : Prices → List Record → Result Prices FileFault
nothing_more p [] = Ok p
nothing_more p (r ∷ rest) = Err (at_line 50 4)

abbrev pub prices_after : ℕ → PricesSoFar → List Record → Result Prices FileFault
prices_after goods no_head rest = prices_of_records goods rest
prices_after goods no_prices rest = prices_from goods rest
prices_after goods (no_end p) rest = prices_at_end p rest
prices_after goods (with_end p) rest = nothing_more p rest
prices_after goods (in_fault fault) rest = Err fault

-- after a record of prices for these goods, or of something else
abbrev pub ended_where : Option Prices → List Record → Result Prices FileFault
ended_where None rest = Err (at_line 50 2)
ended_where (Some p) rest = prices_at_end p rest
