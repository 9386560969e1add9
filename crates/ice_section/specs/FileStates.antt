-- The code's states and faults of files in line form, in the words of their steps.
use Rattle.std.specs.Prelude.{ℕ, ◌≡◌, true, is_some, Some, Result, Err}
use Rattle.std.specs.Option.{unwrap_or}
use Rattle.ice_defs.specs.FileFault.{FileFault, at_line}
use Rattle.ice_section.specs.declared.faults.LineFileFault.{LineFileFault}
use Rattle.ice_section.specs.declared.faults.LineFileFault.TheVariants.{Fault, NoMemory}
use Rattle.ice_section.specs.declared.exchange_file.ExchangeFile.{ExchangeFile}
use Rattle.ice_section.specs.declared.exchange_file.SoFar.{SoFar}
use Rattle.ice_section.specs.declared.exchange_file.SoFar.TheVariants as reached
use Rattle.ice_section.specs.declared.prices_file.PricesFile.{PricesFile}
use Rattle.ice_section.specs.declared.prices_file.PricesFile.TheVariants as prices
use Rattle.ice_section.specs.FaultNumbers.{line_cause_number}
use Rattle.ice_section.specs.Section.{Section}
use Rattle.ice_section.specs.FileSteps as steps

-- the fault of a file, whose cause has this number; want of memory is free
abbrev pub IsFaultOf : {X : Type 0} → Result X FileFault → LineFileFault → Type 0
IsFaultOf found (Fault cause line) = (number : ℕ) × (line_cause_number cause ≡ Some number) × (found ≡ Err (at_line number line))
IsFaultOf found NoMemory = Unit {0}

-- a fault that the file is found to have
abbrev pub IsFaultFrom : {X : Type 0} → (Result X FileFault → Type 0) → LineFileFault → Type 0
IsFaultFrom Found (Fault cause line) = (number : ℕ) × (line_cause_number cause ≡ Some number) × Found (Err (at_line number line))
IsFaultFrom Found NoMemory = Unit {0}

-- a kept fault has a number
abbrev pub IsNumbered : SoFar → Type 0
IsNumbered (reached.Failed cause line) = is_some (line_cause_number cause) ≡ true
IsNumbered other = Unit {0}

abbrev pub exchange_so_far : SoFar → Section → steps.ExchangeSoFar
exchange_so_far reached.Head s = steps.before_head
exchange_so_far reached.Section s = steps.in_section s
exchange_so_far reached.End s = steps.after_end s
exchange_so_far (reached.Failed cause line) s = steps.at_fault (at_line (unwrap_or (line_cause_number cause) 0) line)

abbrev pub so_far : ExchangeFile → steps.ExchangeSoFar
so_far file = exchange_so_far file.reached file.section

abbrev pub prices_so_far : PricesFile → steps.PricesSoFar
prices_so_far prices.Head = steps.no_head
prices_so_far prices.Prices = steps.no_prices
prices_so_far (prices.End p) = steps.no_end p
prices_so_far (prices.Done p) = steps.with_end p
prices_so_far (prices.Failed line) = steps.in_fault (at_line 50 line)
