use Rattle.std.proofs.Common.{◌≡◌, ◌*◌, ◌^◌, pos, neg_ℤ, ◌≤ℤ◌, ◌*ℤ◌}
use Rattle.ice_defs.specs.Sum.{sum_below}
use Rattle.ice_defs.specs.Set.{units}
use Rattle.ice_defs.specs.Trade.{tree_of, set_of}
use Rattle.ice_fair.specs.Trades.{held_by}
use Rattle.ice_fair.proofs.held.held_units.Given as goal

abbrev pub invariant-loop-bidder : goal.invariant-loop-bidder
invariant-loop-bidder l = record {
  sum : l.sum ≡ sum_below (λ b. held_by l.low l.high b *ℤ units (tree_of l.trade.trees b) (set_of l.trade.sets b) l.good) l.bidder;
  low : neg_ℤ (pos (l.bidder * 2 ^ 42)) ≤ℤ l.sum;
  high : l.sum ≤ℤ pos (l.bidder * 2 ^ 42);
}
