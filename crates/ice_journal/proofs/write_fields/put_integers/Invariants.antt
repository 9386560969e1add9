use Rattle.std.proofs.Common.{◌≡◌, ◌+◌, ◌*◌, ◌≤◌, length, map, drop}
use Rattle.std.specs.Fmt.{signed_decimal}
use Rattle.ice_line.specs.Writing.{with_fields}
use Rattle.ice_journal.proofs.write_fields.put_integers.Given as goal

abbrev pub invariant-loop-number : goal.invariant-loop-number
invariant-loop-number l =
    (with_fields l.to (map signed_decimal (drop l.number-index l.numbers)) ≡ with_fields l.initial.to (map signed_decimal l.numbers)) × (length l.to ≤ 1000 + 41 * l.number-index)
