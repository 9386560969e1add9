use Rattle.std.proofs.Common.{◌≡◌}
use Rattle.ice_fair_stage.specs.Certified.{lows_of, highs_of}
use Rattle.ice_fair_stage.proofs.certified.holds_of.Given as goal

abbrev pub invariant-loop-bidder : goal.invariant-loop-bidder
invariant-loop-bidder l = record {
  low : l.low.items ≡ lows_of l.bidder l.numbers;
  high : l.high.items ≡ highs_of l.bidder l.numbers;
}
