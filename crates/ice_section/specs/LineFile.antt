-- Exchange and prices files in line form: what they describe, or the first fault.
use Rattle.std.specs.Prelude.{ℕ, suc, ◌≡◌, ◌==◌, Bool, true, false, if◌then◌else◌, List, [], ◌∷◌, length, Result, Ok, Err}
use Rattle.ice_defs.specs.FileFault.{FileFault, at_line}
use Rattle.ice_defs.specs.Exchange.{Exchange}
use Rattle.ice_defs.specs.Prices.{Prices}
use Rattle.ice_journal.specs.Records.{Record, version_1, exchange_kind, prices_kind, exchange_end, prices_end}
use Rattle.ice_journal.specs.Records as line
use Rattle.ice_journal.specs.Journal.{LinesFault, grammar, unended, IsJournalOf}
use Rattle.ice_section.specs.Section.{Section, SectionFault, order, count, no_good, maker, no_section, take_record, may_end, exchange_in}

abbrev pub fault_number : SectionFault → ℕ
fault_number order = 50
fault_number count = 50
fault_number no_good = 5
fault_number (maker number) = number

abbrev pub is_exchange_end : Record → Bool
is_exchange_end (line.end exchange_end) = true
is_exchange_end other = false

-- the record that ends the file is there; nothing may stand after it
abbrev pub exchange_at_end : ℕ → Section → List Record → Result Exchange FileFault
exchange_at_end place s [] = if may_end s then Ok (exchange_in s) else Err (at_line 50 place)
exchange_at_end place s (r ∷ rest) = if may_end s then Err (at_line 50 (suc place)) else Err (at_line 50 place)

abbrev pub and_on : ℕ → Result Section SectionFault → (Section → Result Exchange FileFault) → Result Exchange FileFault
and_on place (Err fault) next = Err (at_line (fault_number fault) place)
and_on place (Ok s) next = next s

-- the records from this line on
abbrev pub exchange_from : ℕ → Section → List Record → Result Exchange FileFault
exchange_from place s [] = Err (at_line 50 place)
exchange_from place s (r ∷ rest) = if is_exchange_end r then exchange_at_end place s rest
    else and_on place (take_record s r) (λ next. exchange_from (suc place) next rest)

abbrev pub exchange_of_records : List Record → Result Exchange FileFault
exchange_of_records (line.head version_1 exchange_kind ∷ rest) = exchange_from 2 no_section rest
exchange_of_records other = Err (at_line 50 1)

-- prices for so many goods
abbrev pub prices_at_end : Prices → List Record → Result Prices FileFault
prices_at_end p (line.end prices_end ∷ []) = Ok p
prices_at_end p (line.end prices_end ∷ r ∷ rest) = Err (at_line 50 4)
prices_at_end p other = Err (at_line 50 3)

abbrev pub prices_from : ℕ → List Record → Result Prices FileFault
prices_from goods (line.prices p ∷ rest) = if length p.nums == goods then prices_at_end p rest else Err (at_line 50 2)
prices_from goods other = Err (at_line 50 2)

abbrev pub prices_of_records : ℕ → List Record → Result Prices FileFault
prices_of_records goods (line.head version_1 prices_kind ∷ rest) = prices_from goods rest
prices_of_records goods other = Err (at_line 50 1)

abbrev pub of_lines : {X : Type 0} → (List Record → Result X FileFault) → Result (List Record) LinesFault → Result X FileFault
of_lines read (Err (grammar place)) = Err (at_line 50 place)
of_lines read (Err (unended place)) = Err (at_line 51 place)
of_lines read (Ok records) = read records

-- what a file in line form gives: the least line at fault comes before every other fault
abbrev pub IsExchangeOfLines : List ℕ → Result Exchange FileFault → Type 0
IsExchangeOfLines bytes found = (lines : Result (List Record) LinesFault) × IsJournalOf bytes lines
    × (found ≡ of_lines exchange_of_records lines)

abbrev pub IsPricesOfLines : ℕ → List ℕ → Result Prices FileFault → Type 0
IsPricesOfLines goods bytes found = (lines : Result (List Record) LinesFault) × IsJournalOf bytes lines
    × (found ≡ of_lines (prices_of_records goods) lines)
