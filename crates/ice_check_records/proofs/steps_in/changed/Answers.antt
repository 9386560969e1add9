use Rattle.std.proofs.Common.{◌≡◌, ◌+◌, drop, map, sym, ◌∙◌, subst}
use Rattle.ice_defs.specs.Bound.{Multipliers}
use Rattle.ice_journal.specs.Lines.{change_of}
use Rattle.ice_journal.specs.Plain.{after_changes}
use Rattle.ice_check_records.proofs.Changes.{changed_more, none_left, range_at}
use Rattle.ice_check_records.proofs.steps_in.changed.Goals as goal

pub make_change-requires : goal.make_change-requires
make_change-requires c = (range_at c.args.changes.now c.loop-change.change-index c.loop-change-test.true c.loop-change.invariant.in_range).0

pub loop-change-preserved : goal.loop-change-preserved
loop-change-preserved c =
    let changes = c.args.changes.now in
    let i = c.loop-change.change-index in
    record {
      changed_so = subst (λ (m : Multipliers). after_changes m (map change_of (drop (i + 1) changes)) ≡ after_changes c.args.before.now (map change_of changes)) (sym c.make_change.ensures)
          (sym (changed_more c.loop-change.m changes i c.loop-change-test.true) ∙ c.loop-change.invariant.changed_so);
      in_range = (range_at changes i c.loop-change-test.true c.loop-change.invariant.in_range).1;
    }

pub returns : goal.returns
returns c = sym (none_left c.loop-change.m c.args.changes.now c.loop-change.change-index c.loop-change-test.false) ∙ c.loop-change.invariant.changed_so
