use Rattle.std.proofs.Common.{◌≡◌, ◌+◌, ◌*◌, ◌≤◌, length, drop}
use Rattle.std.specs.List.{AllByRecursion, flat_map}
use Rattle.ice_line.specs.Writing.{with_fields}
use Rattle.ice_journal.specs.Ranges.{IsToll}
use Rattle.ice_journal.specs.Spelling.{numbered_fields}
use Rattle.ice_journal.specs.Lines.{numbers_of}
use Rattle.ice_journal.proofs.write_derived.put_numbers.Given as goal

abbrev pub invariant-loop-number : goal.invariant-loop-number
invariant-loop-number l =
    (with_fields l.to (flat_map numbered_fields (numbers_of (drop l.number-index l.numbers))) ≡ with_fields l.initial.to (flat_map numbered_fields (numbers_of l.numbers)))
    × (length l.to ≤ length l.initial.to + 26 * l.number-index)
    × AllByRecursion IsToll (numbers_of (drop l.number-index l.numbers))
