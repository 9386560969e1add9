-- The numbers of faults.
use Rattle.std.specs.Prelude.{ℕ, Option, Some, None}
use Rattle.ice_tree.specs.Fault.{tree_fault_number}
use Rattle.ice_trade.specs.Fault.{make_fault_number}
use Rattle.ice_journal.specs.declared.lines.BadLine.{BadLine}
use Rattle.ice_journal.specs.declared.lines.BadLine.TheVariants as bad
use Rattle.ice_section.specs.declared.faults.SectionFault.{SectionFault}
use Rattle.ice_section.specs.declared.faults.SectionFault.TheVariants as fault
use Rattle.ice_section.specs.declared.faults.LineCause.{LineCause}
use Rattle.ice_section.specs.declared.faults.LineCause.TheVariants as cause

-- want of memory has no number
abbrev pub section_fault_number : SectionFault → Option ℕ
section_fault_number fault.Order = Some 50
section_fault_number fault.Count = Some 50
section_fault_number fault.NoGood = Some 5
section_fault_number (fault.Tree refusal) = Some (tree_fault_number refusal)
section_fault_number (fault.Make refusal) = make_fault_number refusal
section_fault_number fault.NoMemory = None

abbrev pub line_cause_number : LineCause → Option ℕ
line_cause_number cause.NoRecord = Some 50
line_cause_number cause.NotEnded = Some 51
line_cause_number cause.Misplaced = Some 50
line_cause_number (cause.Section refusal) = section_fault_number refusal

-- why a line is refused from which no record is read
abbrev pub cause_of : BadLine → LineCause
cause_of bad.NoRecord = cause.NoRecord
cause_of bad.NotEnded = cause.NotEnded
