-- The numbers of faults.
use Rattle.std.specs.Prelude.{ℕ, Option, Some, None}
use Rattle.ice_tree.specs.Fault.{tree_fault_number}
use Rattle.ice_trade.specs.Fault.{make_fault_number}
use Rattle.ice_read.specs.declared.cause.ReadCause.{ReadCause}
use Rattle.ice_read.specs.declared.cause.ReadCause.TheVariants.{NotJson, Shape, NotWhole, Range, UnknownGood, NoUnits, NoPackages, Tree}
use Rattle.ice_read.specs.declared.cause.ReadCause.TheVariants.{Make, NoMemory}

-- want of memory has no number
abbrev pub cause_number : ReadCause → Option ℕ
cause_number NotJson = Some 1
cause_number Shape = Some 2
cause_number NotWhole = Some 3
cause_number Range = Some 4
cause_number UnknownGood = Some 5
cause_number NoUnits = Some 90
cause_number NoPackages = Some 91
cause_number (Tree fault) = Some (tree_fault_number fault)
cause_number (Make fault) = make_fault_number fault
cause_number NoMemory = None
