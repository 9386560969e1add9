use Rattle.std.proofs.Common.{◌≤◌, drop, length}
use Rattle.ice_edge.specs.Puts.{TakesAllBut}
use Rattle.ice_write_fair.specs.Lines.{hold_lines}
use Rattle.ice_write_fair.proofs.holds.put_holds.Given as goal

abbrev pub invariant-loop-bidder : goal.invariant-loop-bidder
invariant-loop-bidder g l = record {
  inside : l.bidder ≤ length l.low;
  left : TakesAllBut (hold_lines l.bidder (drop l.bidder l.low) (drop l.bidder l.high)) (hold_lines 0 l.low l.high) (g.K.Sink.taken l.initial.out) (g.K.Sink.taken l.out);
}
