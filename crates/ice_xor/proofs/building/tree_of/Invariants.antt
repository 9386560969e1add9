use Rattle.std.proofs.Common.{◌≡◌}
use Rattle.ice_xor.proofs.Packing.{IsBuilding}
use Rattle.ice_xor.proofs.building.tree_of.Given as goal

abbrev pub invariant-loop-taken : goal.invariant-loop-taken
invariant-loop-taken l = record {
  goods : l.maker.goods ≡ l.goods;
  building : IsBuilding l.goods l.bidder l.most l.maker.draft l.taken-index;
}
