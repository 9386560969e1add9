use Rattle.std.proofs.Common.{◌≡◌, ◌-◌, ◌≤◌, ◌++◌, length}
use Rattle.std.specs.List.{AllByRecursion, flat_map}
use Rattle.ice_journal.specs.Ranges.{Ascends, IsChange}
use Rattle.ice_journal.specs.Spelling.{change_fields}
use Rattle.ice_journal.specs.Lines.{changes_of}
use Rattle.ice_journal.proofs.Changed.{next_good}
use Rattle.ice_journal.proofs.lists.changes.Given as goal

abbrev pub invariant-loop-fields : goal.invariant-loop-fields
invariant-loop-fields l =
    (l.initial.fields ≡ flat_map change_fields (changes_of l.changed) ++ l.fields) × Ascends 0 (changes_of l.changed) × AllByRecursion IsChange (changes_of l.changed)
    × (l.least ≡ next_good 0 (changes_of l.changed)) × (length l.changed.items ≤ l.count)

abbrev pub decreases-loop-fields : goal.decreases-loop-fields
decreases-loop-fields l = l.count - length l.changed.items
