use Rattle.std.proofs.Common.{arith, map}
use Rattle.ice_journal.specs.Plain.{changes_from}
use Rattle.ice_journal.specs.Lines.{change_of}
use Rattle.ice_migrate.specs.Packing.{before_of}
use Rattle.ice_migrate.proofs.Changes.{all_changed}
use Rattle.ice_migrate.proofs.packing.Packing.changes.Goals as goal

pub returns : goal.returns
returns c =
    let before = before_of c.args.self.now in
    let later = c.args.later.now in
    all_changed (map change_of c.loop-good.changes.items) (changes_from 0 before later) c.loop-good.good before later (omega (arith, c.loop-good-test.false)) c.loop-good.invariant.0
