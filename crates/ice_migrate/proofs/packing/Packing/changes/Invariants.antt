use Rattle.std.proofs.Common.{◌≡◌, ◌≤◌, ◌++◌, length, map, drop}
use Rattle.ice_journal.specs.Plain.{changes_from}
use Rattle.ice_journal.specs.Lines.{change_of}
use Rattle.ice_migrate.specs.Packing.{before_of}
use Rattle.ice_migrate.proofs.packing.Packing.changes.Given as goal

abbrev pub invariant-loop-good : goal.invariant-loop-good
invariant-loop-good l =
    (map change_of l.changes.items ++ changes_from l.good (drop l.good (before_of l.self)) (drop l.good l.later) ≡ changes_from 0 (before_of l.self) l.later) × (length l.changes.items ≤ l.good)
