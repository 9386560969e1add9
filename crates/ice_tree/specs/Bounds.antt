-- What new bounds are refused for, in the order of looking.
use Rattle.std.specs.Prelude.{ℕ, ◌≡◌, ◌==◌, ◌&&◌, not, int_lt, Bool, if◌then◌else◌, List, length, zip, ℤ, Option, Some, None, Result, Ok}
use Rattle.std.specs.Prelude.{Err}
use Rattle.std.specs.List.{list_any, list_all}
use Rattle.ice_defs.specs.Making.{is_value}
use Rattle.ice_tree.specs.declared.faults.BoundsFault.{BoundsFault}
use Rattle.ice_tree.specs.Fault.{bounds_fault_number}

-- whether a lower value is above the upper one beside it
abbrev pub are_crossed : List ℤ → List ℤ → Bool
are_crossed lo hi = list_any (λ p. int_lt p.1 p.0) (zip lo hi)

-- a wrong count of values, a value out of range, or crossed ones
abbrev pub bounds_refusal : ℕ → List ℤ → List ℤ → Option ℕ
bounds_refusal nodes lo hi =
    if not ((length lo == nodes) && (length hi == nodes)) then Some 26
    else if not (list_all is_value lo && list_all is_value hi) then Some 22
    else if are_crossed lo hi then Some 21
    else None

-- bounds are refused exactly where a refusal is due, and with its number
abbrev pub BoundsRefusedBy : {T : Type 0} → Result T BoundsFault → Option ℕ → Type 0
BoundsRefusedBy (Ok bounds) due = due ≡ None
BoundsRefusedBy (Err fault) due = due ≡ Some (bounds_fault_number fault)
