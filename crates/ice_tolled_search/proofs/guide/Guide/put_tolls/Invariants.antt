use Rattle.std.proofs.Common.{◌≡◌}
use Rattle.ice_tolled_search.specs.Stated.{AreSame}
use Rattle.ice_tolled_search.proofs.guide.Guide.put_tolls.Given as goal

abbrev pub invariant-loop-place : goal.invariant-loop-place
invariant-loop-place l = record {
  same : AreSame l.fn.stated.goods l.stated.goods;
  shown : l.stated.shown.items ≡ l.fn.stated.shown.items;
}
