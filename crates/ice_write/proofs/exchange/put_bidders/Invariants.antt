use Rattle.std.proofs.Common.{drop}
use Rattle.std.specs.List.{flat_map}
use Rattle.ice_edge.specs.Puts.{TakesAllBut}
use Rattle.ice_write.specs.Pieces.{bidder_text}
use Rattle.ice_write.proofs.exchange.put_bidders.Given as goal

abbrev pub invariant-loop-bidder : goal.invariant-loop-bidder
invariant-loop-bidder g l =
    TakesAllBut (flat_map bidder_text (drop l.bidder l.exchange.bidders)) (flat_map bidder_text l.exchange.bidders) (g.K.Sink.taken l.initial.out) (g.K.Sink.taken l.out)
