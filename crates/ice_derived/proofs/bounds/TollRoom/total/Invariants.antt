use Rattle.std.proofs.Common.{◌*◌, ◌^◌, pos, neg_ℤ, ◌≤ℤ◌}
use Rattle.ice_derived.proofs.Totals.{IsPartialSum}
use Rattle.ice_derived.specs.Weighing.{weights_in}
use Rattle.ice_derived.proofs.bounds.TollRoom.total.Given as goal

abbrev pub invariant-loop-bidder : goal.invariant-loop-bidder
invariant-loop-bidder l = record {
  sum : IsPartialSum l.derived.goods l.derived.tolls l.trees (weights_in l.weights) l.m l.fixings l.bidder l.total;
  low : neg_ℤ (pos (l.bidder * (200 * 2 ^ 94))) ≤ℤ l.total;
  high : l.total ≤ℤ pos (l.bidder * (200 * 2 ^ 94));
}
