use Rattle.std.specs.Prelude.{vec_len}
use Rattle.std.specs.List.{All}
use Rattle.ice_separation.specs.Derivations.{IsDerivation}
use Rattle.ice_root.proofs.stock.Stock.add.Given as goal

abbrev pub invariant-loop-one : goal.invariant-loop-one
invariant-loop-one l = record {
  left : All (IsDerivation l.trees l.room) l.others.items;
  each : All (IsDerivation l.trees l.room) l.self.found.items;
}

abbrev pub decreases-loop-one : goal.decreases-loop-one
decreases-loop-one l = vec_len l.others
