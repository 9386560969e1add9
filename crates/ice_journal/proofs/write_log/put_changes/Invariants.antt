use Rattle.std.proofs.Common.{◌≡◌, ◌+◌, ◌*◌, ◌≤◌, length, map, drop}
use Rattle.std.specs.List.{flat_map}
use Rattle.ice_line.specs.Writing.{with_fields}
use Rattle.ice_journal.specs.Spelling.{change_fields}
use Rattle.ice_journal.specs.Lines.{change_of}
use Rattle.ice_journal.proofs.write_log.put_changes.Given as goal

abbrev pub invariant-loop-change : goal.invariant-loop-change
invariant-loop-change l =
    (with_fields l.to (flat_map change_fields (map change_of (drop l.change-index l.changes))) ≡ with_fields l.initial.to (flat_map change_fields (map change_of l.changes)))
    × (length l.to ≤ 1000 + 82 * l.change-index)
