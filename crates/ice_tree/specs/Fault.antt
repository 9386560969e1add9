-- The refusals by their numbers.
use Rattle.std.specs.Prelude.{ℕ, ◌≡◌, Option, Some, None, Result, Ok, Err}
use Rattle.ice_tree.specs.declared.faults.TreeFault.{TreeFault}
use Rattle.ice_tree.specs.declared.faults.TreeFault.TheVariants.{BadInterval, Crossed, OutOfRange, TooManyNodes, TooDeep, Unclosed}
use Rattle.ice_tree.specs.declared.faults.BoundsFault.{BoundsFault}
use Rattle.ice_tree.specs.declared.faults.BoundsFault.TheVariants as bounds

abbrev pub tree_fault_number : TreeFault → ℕ
tree_fault_number BadInterval = 20
tree_fault_number Crossed = 21
tree_fault_number OutOfRange = 22
tree_fault_number TooManyNodes = 23
tree_fault_number TooDeep = 24
tree_fault_number Unclosed = 25

abbrev pub bounds_fault_number : BoundsFault → ℕ
bounds_fault_number bounds.WrongCount = 26
bounds_fault_number bounds.OutOfRange = 22
bounds_fault_number bounds.Crossed = 21

-- a call is refused exactly where a refusal is due, and with its number
abbrev pub RefusedBy : {T : Type 0} → Result T TreeFault → Option ℕ → Type 0
RefusedBy (Ok x) due = due ≡ None
RefusedBy (Err fault) due = due ≡ Some (tree_fault_number fault)
