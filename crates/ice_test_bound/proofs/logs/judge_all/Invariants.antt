use Rattle.std.proofs.Common.{◌≡◌, [], ◌∷◌, false}
use Rattle.ice_refute.specs.Waiting.{nodes_of}
use Rattle.ice_test_bound.proofs.logs.judge_all.Given as goal

abbrev pub invariant-loop-steps : goal.invariant-loop-steps
invariant-loop-steps g l = record {
  marks : nodes_of l.desk.marks ≡ nodes_of l.trees;
  exact : l.desk.room ≡ false ∷ [];
}
