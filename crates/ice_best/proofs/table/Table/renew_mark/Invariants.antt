use Rattle.std.proofs.Common.{◌<◌, length}
use Rattle.ice_best.specs.Entries.{AreOtherEntries}
use Rattle.ice_best.proofs.table.Table.renew_mark.Given as goal

abbrev pub invariant-loop-at : goal.invariant-loop-at
invariant-loop-at l = record {
  inside : l.at < length l.tree;
  others : AreOtherEntries l.tree l.weights l.fixing l.self l.at;
}

abbrev pub decreases-loop-at : goal.decreases-loop-at
decreases-loop-at l = l.at
