use Rattle.std.proofs.Common.{◌≡◌}
use Rattle.ice_xor.proofs.Packing.{IsPacking}
use Rattle.ice_xor.proofs.building.add_package.Given as goal

abbrev pub invariant-loop-units : goal.invariant-loop-units
invariant-loop-units l = record {
  goods : l.maker.goods ≡ l.fn.maker.goods;
  packing : IsPacking l.fn.maker.goods l.fn.maker.draft l.all l.added l.maker.draft l.units-index;
}
