use Rattle.std.proofs.Common.{◌≡◌}
use Rattle.ice_test_gen.proofs.drawn.right_changes.Given as goal

abbrev pub invariant-loop-change : goal.invariant-loop-change
invariant-loop-change l = record {
  trees : l.kept.trees ≡ l.initial.kept.trees;
  exact : l.kept.exact ≡ l.initial.kept.exact;
  room : l.desk.room ≡ l.initial.desk.room;
}
