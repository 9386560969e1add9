use Rattle.std.specs.List.{All}
use Rattle.ice_separation.specs.Derivations.{IsDerivation}
use Rattle.ice_root.proofs.closing.close_root.Given as goal

abbrev pub invariant-loop-round : goal.invariant-loop-round
invariant-loop-round l = All (IsDerivation l.trees l.room) l.stock.found.items
