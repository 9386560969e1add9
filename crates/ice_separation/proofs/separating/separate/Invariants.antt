use Rattle.std.proofs.Common.{◌≤◌, ◌≡◌, []}
use Rattle.std.specs.Prelude.{vec_len}
use Rattle.std.specs.List.{All}
use Rattle.ice_defs.specs.Group.{free_side}
use Rattle.ice_refute.specs.Waiting.{nodes_of}
use Rattle.ice_separation.specs.Derivations.{IsDerivation}
use Rattle.ice_separation.proofs.separating.separate.Given as goal

abbrev pub invariant-loop-one : goal.invariant-loop-one
invariant-loop-one l = record {
  each : All (IsDerivation l.trees l.room) l.found.items;
  few : vec_len l.found ≤ 20;
  free : l.desk.free ≡ free_side l.trees;
  nodes : l.desk.none.nodes ≡ nodes_of l.trees;
  none : l.desk.none.goods ≡ [];
}
