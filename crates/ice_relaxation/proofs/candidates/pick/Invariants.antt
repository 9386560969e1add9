use Rattle.std.proofs.Common.{◌≤◌}
use Rattle.std.specs.List.{All}
use Rattle.arrayvec.specs.ArrayVec.{array_vec_len}
use Rattle.ice_relaxation.specs.Candidates.{IsFreeAt}
use Rattle.ice_relaxation.proofs.candidates.pick.Given as goal

abbrev pub invariant-loop-scored : goal.invariant-loop-scored
invariant-loop-scored l = record {
  room : array_vec_len l.candidates ≤ l.scored-index;
  free : All (IsFreeAt l.trees l.marks) l.candidates.items;
}
