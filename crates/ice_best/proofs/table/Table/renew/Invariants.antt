use Rattle.std.proofs.Common.{◌<◌, length}
use Rattle.ice_best.specs.Rise.{IsFollowed}
use Rattle.ice_best.proofs.table.Table.renew.Given as goal

abbrev pub invariant-loop-at : goal.invariant-loop-at
invariant-loop-at l = record {
  inside : l.at < length l.tree;
  followed : IsFollowed l.tree l.weights l.fixing l.self l.at l.more;
}

abbrev pub decreases-loop-at : goal.decreases-loop-at
decreases-loop-at l = l.at
