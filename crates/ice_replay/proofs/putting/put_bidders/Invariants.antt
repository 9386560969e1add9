use Rattle.std.proofs.Common.{drop}
use Rattle.std.specs.List.{flat_map}
use Rattle.ice_edge.specs.Puts.{TakesAllBut}
use Rattle.ice_replay.specs.Lines.{bidder_line}
use Rattle.ice_replay.proofs.putting.put_bidders.Given as goal

abbrev pub invariant-loop-bidder : goal.invariant-loop-bidder
invariant-loop-bidder g l =
    TakesAllBut (flat_map bidder_line (drop l.bidder-index l.bidders)) (flat_map bidder_line l.bidders) (g.K.Sink.taken l.initial.out) (g.K.Sink.taken l.out)
