use Rattle.ice_best.specs.Entries.{AreEntries}
use Rattle.ice_best.proofs.fill.fill_all.Given as goal

abbrev pub invariant-loop-node : goal.invariant-loop-node
invariant-loop-node l = AreEntries l.tree l.weights l.fixing l.table l.node
