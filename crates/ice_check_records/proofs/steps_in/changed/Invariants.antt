use Rattle.std.proofs.Common.{◌≡◌, drop, map}
use Rattle.ice_journal.specs.Lines.{change_of}
use Rattle.ice_journal.specs.Plain.{after_changes}
use Rattle.ice_check_records.specs.Logs.{AreChangesInRange}
use Rattle.ice_check_records.proofs.steps_in.changed.Given as goal

abbrev pub invariant-loop-change : goal.invariant-loop-change
invariant-loop-change l = record {
  changed_so : after_changes l.m (map change_of (drop l.change-index l.changes)) ≡ after_changes l.before (map change_of l.changes);
  in_range : AreChangesInRange (drop l.change-index l.changes);
}
