use Rattle.std.proofs.Common.{drop, length}
use Rattle.std.specs.List.{flat_map}
use Rattle.ice_edge.specs.Puts.{TakesAllBut}
use Rattle.ice_defs.specs.Sum.{numbers_below}
use Rattle.ice_write.specs.Pieces.{node_text}
use Rattle.ice_write.proofs.exchange.put_nodes.Given as goal

abbrev pub invariant-loop-node : goal.invariant-loop-node
invariant-loop-node g l =
    TakesAllBut (flat_map (node_text l.tree l.bounds) (drop l.node (numbers_below (length l.tree)))) (flat_map (node_text l.tree l.bounds) (numbers_below (length l.tree))) (g.K.Sink.taken l.initial.out) (g.K.Sink.taken l.out)
