use Rattle.std.proofs.Common.{◌≡◌, ◌-◌, ◌≤◌, ◌++◌, length, map}
use Rattle.std.specs.Fmt.{signed_decimal}
use Rattle.std.specs.List.{AllByRecursion}
use Rattle.ice_journal.specs.Ranges.{IsValue}
use Rattle.ice_journal.proofs.lists.counted_values.Given as goal

abbrev pub invariant-loop-fields : goal.invariant-loop-fields
invariant-loop-fields l = (l.initial.fields ≡ map signed_decimal l.values.items ++ l.fields) × AllByRecursion IsValue l.values.items × (length l.values.items ≤ l.count)

abbrev pub decreases-loop-fields : goal.decreases-loop-fields
decreases-loop-fields l = l.count - length l.values.items
