use Rattle.std.proofs.Common.{drop}
use Rattle.std.specs.List.{AllByRecursion, flat_map}
use Rattle.ice_edge.specs.Puts.{TakesAllBut}
use Rattle.ice_journal.specs.Ranges.{IsBits}
use Rattle.ice_write.specs.Pieces.{set_text}
use Rattle.ice_write.proofs.group.put_sets.Given as goal

abbrev pub invariant-loop-bidder : goal.invariant-loop-bidder
invariant-loop-bidder g l = record {
  bits : AllByRecursion IsBits (drop l.bidder l.sets);
  left : TakesAllBut (flat_map set_text (drop l.bidder l.sets)) (flat_map set_text l.sets) (g.K.Sink.taken l.initial.out) (g.K.Sink.taken l.out);
}
