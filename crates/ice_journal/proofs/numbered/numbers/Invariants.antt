use Rattle.std.proofs.Common.{◌≡◌, ◌-◌, ◌≤◌, ◌++◌, length}
use Rattle.std.specs.List.{AllByRecursion, flat_map}
use Rattle.ice_journal.specs.Ranges.{Climbs}
use Rattle.ice_journal.specs.Listed.{IsOf}
use Rattle.ice_journal.specs.Spelling.{numbered_fields}
use Rattle.ice_journal.specs.Lines.{numbers_of}
use Rattle.ice_journal.proofs.Climbing.{next_number}
use Rattle.ice_journal.proofs.numbered.numbers.Given as goal

abbrev pub invariant-loop-listed : goal.invariant-loop-listed
invariant-loop-listed l =
    (l.initial.fields ≡ flat_map numbered_fields (numbers_of l.read.items) ++ l.fields) × Climbs 0 (numbers_of l.read.items) × AllByRecursion (IsOf l.listed) (numbers_of l.read.items)
    × (l.least ≡ next_number 0 (numbers_of l.read.items)) × (length l.read.items ≤ l.count)

abbrev pub decreases-loop-listed : goal.decreases-loop-listed
decreases-loop-listed l = l.count - length l.read.items
