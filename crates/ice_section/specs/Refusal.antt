-- The faults that the code answers, and when each is due.
use Rattle.std.specs.Prelude.{ℕ, ◌≡◌, Option, IfSome, IsSome, IsNone, Result, Err}
use Rattle.ice_tree.specs.Fault.{tree_fault_number}
use Rattle.ice_trade.specs.Fault.{make_fault_number}
use Rattle.ice_journal.specs.Records.{Record}
use Rattle.ice_journal.specs.Records as line
use Rattle.ice_section.specs.FaultNumbers.{section_fault_number}
use Rattle.ice_section.specs.declared.faults.SectionFault.{SectionFault}
use Rattle.ice_section.specs.declared.faults.SectionFault.TheVariants as fault
use Rattle.ice_section.specs.Section.{Section, order, count, no_good, maker}
use Rattle.ice_section.specs.Section as told

-- the fault of this refusal; want of memory is free
abbrev pub IsRefusal : Result Section told.SectionFault → SectionFault → Type 0
IsRefusal found fault.Order = found ≡ Err order
IsRefusal found fault.Count = found ≡ Err count
IsRefusal found fault.NoGood = found ≡ Err no_good
IsRefusal found (fault.Tree refusal) = found ≡ Err (maker (tree_fault_number refusal))
IsRefusal found (fault.Make refusal) = IfSome (make_fault_number refusal) (λ number. found ≡ Err (maker number))
IsRefusal found fault.NoMemory = Unit {0}

-- the fault of a refusal by the exchange's maker, which has a number
abbrev pub IsMakerRefusal : Option ℕ → SectionFault → Type 0
IsMakerRefusal due fault.Order = ⊥
IsMakerRefusal due fault.Count = ⊥
IsMakerRefusal due fault.NoGood = ⊥
IsMakerRefusal due (fault.Tree refusal) = ⊥
IsMakerRefusal due (fault.Make refusal) = (due ≡ make_fault_number refusal) × IsSome due
IsMakerRefusal due fault.NoMemory = ⊥

abbrev pub HasNumber : SectionFault → Type 0
HasNumber fault = IsSome (section_fault_number fault)

abbrev pub IsSettings : Record → Type 0
IsSettings (line.settings settings) = Unit {0}
IsSettings other = ⊥

-- want of memory, in whatever form, comes with the settings alone
abbrev pub HasNumberUnlessSettings : Record → SectionFault → Type 0
HasNumberUnlessSettings r fault = IsNone (section_fault_number fault) → IsSettings r
