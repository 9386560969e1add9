use Rattle.std.proofs.Common.{◌≡◌, ◌+◌, ◌*◌, ◌≤◌, length, map, drop}
use Rattle.std.specs.Fmt.{signed_decimal}
use Rattle.std.specs.List.{AllByRecursion}
use Rattle.ice_line.specs.Writing.{with_fields}
use Rattle.ice_journal.specs.Ranges.{IsValue}
use Rattle.ice_journal.proofs.write_session.put_values.Given as goal

abbrev pub invariant-loop-value : goal.invariant-loop-value
invariant-loop-value l =
    (with_fields l.to (map signed_decimal (drop l.value-index l.values)) ≡ with_fields l.initial.to (map signed_decimal l.values)) × (length l.to ≤ length l.initial.to + 12 * l.value-index)
    × AllByRecursion IsValue (drop l.value-index l.values)
