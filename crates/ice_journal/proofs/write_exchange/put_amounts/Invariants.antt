use Rattle.std.proofs.Common.{◌≡◌, ◌+◌, ◌*◌, ◌≤◌, length, map, decimal, drop}
use Rattle.ice_line.specs.Writing.{with_fields}
use Rattle.ice_journal.proofs.write_exchange.put_amounts.Given as goal

abbrev pub invariant-loop-amount : goal.invariant-loop-amount
invariant-loop-amount l =
    (with_fields l.to (map decimal (drop l.amount-index l.own)) ≡ with_fields l.initial.to (map decimal l.own)) × (length l.to ≤ 1000 + 41 * l.amount-index)
