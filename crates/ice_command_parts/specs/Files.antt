-- Exchange, prices and round files.
use Rattle.std.specs.Prelude.{ℕ, ◌≡◌, ◌==◌, Bool, true, false, List, [], ◌∷◌, Option, Some, None, Ok, Err}
use Rattle.ice_edge.specs.Told.{Told}
use Rattle.ice_defs.specs.Prices.{Prices}
use Rattle.ice_defs.specs.Exchange.{Exchange}
use Rattle.ice_defs.specs.FileFault.{FileFault, Read}
use Rattle.ice_section.specs.FaultNumbers.{line_cause_number}
use Rattle.ice_section.specs.LineFile.{IsExchangeOfLines, IsPricesOfLines}
use Rattle.ice_section.specs.declared.faults.LineFileFault.{LineFileFault}
use Rattle.ice_section.specs.declared.faults.LineFileFault.TheVariants as fault
use Rattle.ice_defs.specs.Round.{Submission}
use Rattle.ice_read.specs.ExchangeFile.{exchange_of}
use Rattle.ice_read.specs.RoundFile.{bids_of}
use Rattle.ice_read.specs.declared.fault.ReadFault.{ReadFault}
use Rattle.ice_read.specs.Cause.{cause_number}
use Rattle.ice_command_parts.specs.declared.refusal.FileFault.TheVariants.{AtLine, AtPlace}
use Rattle.ice_command_parts.specs.declared.refusal.Refusal.{Refusal}
use Rattle.ice_command_parts.specs.declared.refusal.Refusal.TheVariants.{File, NoMemory}
use Rattle.ice_command_parts.specs.Call.{file_limit, OfTold}

-- the first byte is `i`
abbrev pub is_line_form : List ℕ → Bool
is_line_form [] = false
is_line_form (byte ∷ rest) = byte == 105

-- a file that is not in line form is JSON
abbrev pub IsExchangeIn : Bool → List ℕ → Read Exchange → Type 0
IsExchangeIn true bytes found = IsExchangeOfLines bytes found
IsExchangeIn false bytes found = found ≡ exchange_of bytes

-- the exchange of a file's bytes, or the first fault
abbrev pub IsExchangeOf : List ℕ → Read Exchange → Type 0
IsExchangeOf bytes found = IsExchangeIn (is_line_form bytes) bytes found

abbrev pub IsExchangeFault : List ℕ → FileFault → Type 0
IsExchangeFault bytes fault = IsExchangeOf bytes (Err fault)

-- a fault of the prices for so many goods
abbrev pub IsPricesFault : ℕ → List ℕ → FileFault → Type 0
IsPricesFault goods bytes fault = IsPricesOfLines goods bytes (Err fault)

-- a fault of a round's bids
abbrev pub IsRoundFault : List ℕ → FileFault → Type 0
IsRoundFault bytes fault = bids_of bytes ≡ Err fault

-- the file of this name, where it is told, is this exchange
abbrev pub HoldsExchange : Told → List ℕ → Exchange → Type 0
HoldsExchange shelf name exchange = OfTold file_limit (λ bytes. IsExchangeOf bytes (Ok exchange)) (shelf.holds name)

-- the file of this name, where it is told, has these prices for so many goods
abbrev pub HoldsPrices : Told → List ℕ → ℕ → Prices → Type 0
HoldsPrices shelf name goods prices = OfTold file_limit (λ bytes. IsPricesOfLines goods bytes (Ok prices)) (shelf.holds name)

-- the file of this name, where it is told, has these bids
abbrev pub HoldsBids : Told → List ℕ → List Submission → Type 0
HoldsBids shelf name bids = OfTold file_limit (λ bytes. bids_of bytes ≡ Ok bids) (shelf.holds name)

-- a fault with this number at a line of the file; want of memory has no number
abbrev pub IsRefusalAt : ℕ → Option ℕ → ℕ → Refusal → Type 0
IsRefusalAt file (Some number) line refusal = refusal ≡ File file (AtLine number line)
IsRefusalAt file None line refusal = refusal ≡ NoMemory

-- a fault that a reader of lines found in the file with this number
abbrev pub IsLineRefusal : ℕ → LineFileFault → Refusal → Type 0
IsLineRefusal file (fault.Fault cause line) refusal = IsRefusalAt file (line_cause_number cause) line refusal
IsLineRefusal file fault.NoMemory refusal = refusal ≡ NoMemory

-- a fault that the reader of JSON found in the file with this number:
-- every number has its place; want of memory has no number
abbrev pub IsPlaceRefusal : ℕ → ReadFault → Refusal → Type 0
IsPlaceRefusal file fault refusal = numbered (cause_number fault.cause)
  where
    numbered : Option ℕ → Type 0
    numbered (Some number) = refusal ≡ File file (AtPlace number fault.place)
    numbered None = refusal ≡ NoMemory
