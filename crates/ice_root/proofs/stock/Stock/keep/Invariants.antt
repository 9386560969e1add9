use Rattle.std.proofs.Common.{◌≤◌}
use Rattle.std.specs.Prelude.{vec_len}
use Rattle.std.specs.List.{All}
use Rattle.ice_separation.specs.Derivations.{IsDerivation}
use Rattle.ice_root.proofs.stock.Stock.keep.Given as goal

abbrev pub invariant-loop-one : goal.invariant-loop-one
invariant-loop-one l = record {
  left : All (IsDerivation l.trees l.room) l.self.found.items;
  stay : All (IsDerivation l.trees l.room) l.stay.found.items;
  few : vec_len l.stay.found ≤ 64;
}

abbrev pub decreases-loop-one : goal.decreases-loop-one
decreases-loop-one l = vec_len l.self.found
